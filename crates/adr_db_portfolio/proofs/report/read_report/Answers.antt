use Rattle.std.proofs.Common.{ap, sym, arith, ◌∙◌, Some}
use Rattle.adr_db.proofs.Common.{state, HasCleanDisk, at, nat_cmp}
use Rattle.adr_db.proofs.Reports.{report_found, none_found}
use Rattle.adr_db_portfolio.proofs.report.read_report.Goals as goal

pub returns-in_ok-intervals-in-Some-clause-finds : goal.returns-in_ok-intervals-in-Some-clause-finds
returns-in_ok-intervals-in-Some-clause-finds g c clean kept was =
    let early : HasCleanDisk (state g.S.Store c.read_columns.new.tx.conn.now) = omega (arith, c.read_values.ensures.lent.stays.crash.clean) in
    let found = c.in_ok-found.ensures.finds early kept was in
    let intervals = c.in_ok-intervals-in-Some.ensures.finds clean kept found.1 in
    (ap Some c.whole_report.ensures ∙ report_found c.args.id kept c.in-Some.columns c.in_ok-intervals-in-Some.intervals (sym c.in-Some.is ∙ found.0) intervals.0, intervals.1)

pub returns-in-None-clause-finds : goal.returns-in-None-clause-finds
returns-in-None-clause-finds g c clean kept was =
    let found = c.in_ok-found.ensures.finds clean kept was in
    (none_found c.args.id (at nat_cmp c.args.id kept.portfolio.reports) (sym c.in-None.is ∙ found.0), found.1)
