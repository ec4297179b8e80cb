use Rattle.std.proofs.Common.{ℕ, map, ap, ap₂, arith, ◌∙◌}
use Rattle.adr_db.proofs.Common.{state, HasCleanDisk}
use Rattle.adr_state.specs.declared.portfolio.Report.{Report}
use Rattle.adr_view.specs.Rollups.{reporters, rollup_for}
use Rattle.adr_upkeep.proofs.rolled_up.event_rollup.Goals as goal

pub returns-clause-finds : goal.returns-clause-finds
returns-clause-finds g c clean kept was right =
    let early : HasCleanDisk (state g.S.Store c.participants.new.tx.conn.now) = omega (arith, c.read_reports_of.ensures.lent.stays.crash.clean) in
    let ps = c.in_ok-ps.ensures.finds early kept was right in
    let rows = c.in_ok-rows.ensures.finds clean kept ps.2 in
    let reports = c.deref.ensures.value ∙ c.in_ok-reports.ensures ∙ ap (map (λ (r : ℕ × Report). r.1)) rows.0 in
    (c.in_ok-rollup_for.ensures ∙ ap (rollup_for c.args.event.now) (c.deref-2.ensures.value ∙ c.in_ok-rs.ensures.value ∙ ap₂ reporters reports (c.as_slice.ensures ∙ ps.0)), ps.1, rows.1)
