use Rattle.std.proofs.Common.{◌∷◌, [], subst}
use Rattle.adr_db.proofs.Common.{Text, Runs, state, with_row, rows_of_table, with_table}
use Rattle.adr_db_portfolio.specs.declared.report.TheConstants.{PUT}
use Rattle.adr_db.specs.Rows.{number, report_row}
use Rattle.adr_db.proofs.Calls.{run_changes}
use Rattle.adr_db_portfolio.proofs.ReportStatements.{row_put}
use Rattle.adr_db_portfolio.proofs.report.put_row.Goals as goal

pub returns-clause-changes : goal.returns-clause-changes
returns-clause-changes g c =
    let old = c.args.tx.now.conn.now in
    let new = c.run.new.tx.conn.now in
    let report = c.args.report.now in
    let head = report.body.head in
    let row = report_row (c.args.id, report) in
    run_changes g.S.Store old new _ row (λ all. with_table all 7 (with_row 1 row (rows_of_table all 7))) c.run.result (row_put (c.args.id, report) (state g.S.Store old) (state g.S.Store new))
    (subst (λ cell. Runs g.S.Store old new PUT.now (number c.args.id ∷ Text head.event ∷ number head.resource ∷ Text head.program ∷ Text head.client ∷ cell ∷ Text head.resource_name ∷ number report.revision ∷ []) c.run.result) c.name_cell.ensures
    (rw (c.in_ok-number.ensures.value, c.get.ensures, c.to_sql.ensures, c.as_str.ensures.text, c.in_ok-number-2.ensures.value, c.get-2.ensures, c.to_sql-2.ensures, c.as_str-2.ensures.text, c.to_sql-3.ensures, c.as_str-3.ensures.text, c.to_sql-4.ensures, c.as_str-4.ensures.text, c.in_ok-number-3.ensures.value, c.get-3.ensures) at c.run.ensures.runs))
