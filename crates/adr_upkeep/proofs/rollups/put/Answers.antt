use Rattle.std.proofs.Common.{◌≡◌, subst, arith, ◌∙◌}
use Rattle.adr_db.proofs.Common.{state, HasCleanDisk}
use Rattle.adr_db.proofs.Results.{on_then}
use Rattle.adr_db.specs.Kept.{Kept, Keeps, with_rollup, with_stamps}
use Rattle.adr_kept_view.specs.Columns.{rollup_columns}
use Rattle.adr_upkeep.proofs.rollups.put.Goals as goal

pub returns-clause-leaves : goal.returns-clause-leaves
returns-clause-leaves g c clean =
    let early : HasCleanDisk (state g.S.Store c.put_rollup.new.tx.conn.now) = omega (arith, c.put_stamps.ensures.lent.stays.crash.clean) in
    let same : c.in_ok-columns.columns ≡ rollup_columns c.args.event.now c.args.rollup.now = c.in_ok-columns.ensures ∙ λ i. record { program = c.args.rollup.now.program; body = c.requires i } in
    on_then c.put_stamps.result (λ leaves kept was.
    let rolled = c.in_ok-put_rollup.ensures.leaves early kept was in
    subst (λ (k : Kept). Keeps k (state g.S.Store c.put_stamps.new.tx.conn.now)) (λ i. with_stamps c.args.place.now c.args.stamps (with_rollup c.args.event.now (same i) kept)) (leaves (with_rollup c.args.event.now c.in_ok-columns.columns kept) rolled))
    (c.put_stamps.ensures.leaves clean)
