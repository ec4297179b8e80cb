use Rattle.std.proofs.Common.{ap, arith, map, filter, ◌∙◌, Ok}
use Rattle.std.specs.Prelude.{bytes_eq}
use Rattle.sqlite_rules.proofs.ListLemmas.{has_filtered}
use Rattle.adr_db.proofs.Common.{state, HasCleanDisk, Refusal}
use Rattle.adr_db.specs.Kept.{report_of}
use Rattle.adr_db.proofs.Results.{ok_then}
use Rattle.adr_db.proofs.Rises.{reports_rise}
use Rattle.adr_db.proofs.Reports.{reports_whole}
use Rattle.adr_db_portfolio.proofs.ReportStatements.{rows_of_find}
use Rattle.adr_db_portfolio.proofs.report.read_reports_of.Goals as goal

pub returns-clause-finds : goal.returns-clause-finds
returns-clause-finds g c clean =
    let old = state g.S.Store c.args.tx.now.conn.now in
    let event = c.args.event.now in
    let early : HasCleanDisk (state g.S.Store c.all_of.new.tx.conn.now) = omega (arith, c.with_values.ensures.lent.stays.crash.clean) in
    ok_then c.with_values.result (λ reports finds kept was.
    let es = kept.portfolio.reports in
    let found = rows_of_find {E = Refusal} g.S.Store c.args.tx.now.conn.now c.all_of.new.tx.conn.now event (Ok c.in_ok-rows.rows) (rw (c.to_sql.ensures, c.as_str.ensures.text) at c.in_ok-rows.ensures.shows) early kept was in
    let whole = finds kept found.1 in
    (whole.0 ∙ ap (map (report_of kept)) found.0 ∙ reports_whole kept (reports_rise kept old was) (filter (λ e. bytes_eq e.1.body.head.event event) es) (λ e has. (has_filtered (λ e. bytes_eq e.1.body.head.event event) es e has).0), whole.1)) (c.with_values.ensures.finds clean)
