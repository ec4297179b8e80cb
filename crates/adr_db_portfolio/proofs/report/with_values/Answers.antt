use Rattle.std.proofs.Common.{◌∷◌, ◌++◌, [], ap, ap₂, sym, arith, ◌∙◌, ℕ, List, Ok}
use Rattle.adr_db.proofs.Common.{state, HasCleanDisk, Report, map-append, lent_then}
use Rattle.adr_db.specs.Kept.{whole_report, report_of}
use Rattle.adr_db_portfolio.proofs.report.with_values.Goals as goal

pub rows-preserved : goal.rows-preserved
rows-preserved g c = record {
  lent =
      let one = c.in_ok-intervals.ensures.lent in
      lent_then g.S.Store _ _ _ _ (Ok tt) c.rows.invariant.lent (record { same = one.same; stays = record { crash = one.stays.crash; commit = one.stays.commit; inside = one.stays.inside } });
  found = λ clean kept was.
      let early : HasCleanDisk (state g.S.Store c.rows.tx.conn.now) = omega (arith, c.read_values.ensures.lent.stays.crash.clean) in
      let so_far = c.rows.invariant.found early kept was in
      let one = c.in_ok-intervals.ensures.finds clean kept so_far.1 in
      let report = c.whole_report.ensures ∙ ap (whole_report c.in-Some.row.1) one.0 in
      (c.in_ok-push.ensures.ok ∙ ap₂ (λ (reports : List (ℕ × Report)) (report : Report). reports ++ (c.in-Some.row.0, report) ∷ []) so_far.0 report ∙ sym (map-append (report_of kept) c.rows.yielded (c.in-Some.row ∷ [])), one.1);
}
