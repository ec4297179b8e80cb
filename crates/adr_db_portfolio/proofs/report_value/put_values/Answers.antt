use Rattle.std.proofs.Common.{ap, sym, subst, arith, ◌∙◌}
use Rattle.std.proofs.lemmas.List.{drop_all}
use Rattle.adr_db.proofs.Common.{state, HasCleanDisk, lent_then, Holds}
use Rattle.adr_db.specs.Rows.{value_rows_from}
use Rattle.adr_db.specs.Tables.{schema}
use Rattle.adr_db.specs.Kept.{contents_with, with_value_rows}
use Rattle.adr_db_portfolio.proofs.ReportPuts.{one_put}
use Rattle.adr_db_portfolio.proofs.report_value.put_values.Goals as goal

pub intervals-preserved : goal.intervals-preserved
intervals-preserved g c = record {
  lent = lent_then g.S.Store _ _ _ _ _ c.intervals.invariant.lent c.in_ok-put_value.ensures.lent;
  put = λ clean kept reports values was.
      let early : HasCleanDisk (state g.S.Store c.intervals.tx.conn.now) = omega (arith, c.put_value.ensures.lent.stays.crash.clean) in
      let so_far = c.intervals.invariant.put early kept reports values was in
      let next = c.in_ok-put_value.ensures.changes clean kept reports so_far.0 so_far.1 in
      (_, next, sym (one_put c.args.report c.intervals.place c.args.intervals.now c.index-intervals-place.result so_far.0 c.intervals-test.true c.index-intervals-place.is) ∙ so_far.2);
}

pub returns-clause-changes : goal.returns-clause-changes
returns-clause-changes g c clean kept reports values was =
    let done = c.intervals.invariant.put clean kept reports values was in
    let left = drop_all c.intervals.place c.args.intervals.now (omega (arith, c.intervals-test.false)) in
    let same = ap (λ left. with_value_rows (value_rows_from c.args.report c.intervals.place left) done.0) (sym left) ∙ done.2 in
    subst (λ rows. Holds schema (contents_with reports rows kept) (state g.S.Store c.intervals.tx.conn.now)) same done.1
