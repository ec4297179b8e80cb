use Rattle.std.proofs.Common.{subst, arith, map, flat_map}
use Rattle.adr_db.proofs.Common.{state, HasCleanDisk, Holds, insert_entry, nat_cmp}
use Rattle.adr_sql.specs.Keys.{rows_without}
use Rattle.adr_sql.proofs.Maps.{put_entry}
use Rattle.adr_db.specs.Tables.{schema}
use Rattle.adr_db.specs.Rows.{number_row, report_row, report_columns, value_rows}
use Rattle.adr_db.specs.Kept.{contents_of, contents_with}
use Rattle.adr_db.proofs.Results.{on_then}
use Rattle.adr_db.proofs.Rows.{number_codec}
use Rattle.adr_db.proofs.Rises.{reports_rise}
use Rattle.adr_db_portfolio.proofs.ReportPuts.{report_put}
use Rattle.adr_db_portfolio.proofs.report.put_report.Goals as goal

pub returns-clause-leaves : goal.returns-clause-leaves
returns-clause-leaves g c clean =
    let old = state g.S.Store c.args.tx.now.conn.now in
    let second : HasCleanDisk (state g.S.Store c.clear_values.new.tx.conn.now) = omega (arith, c.put_values.ensures.lent.stays.crash.clean) in
    let first : HasCleanDisk (state g.S.Store c.put_row.new.tx.conn.now) = omega (arith, second, c.clear_values.ensures.lent.stays.crash.clean) in
    on_then c.put_values.result (λ put kept was.
    let es = kept.portfolio.reports in
    let id = c.args.id in
    let report = c.args.report.now in
    let rows = map report_row (insert_entry nat_cmp es id report) in
    let row = subst (λ rows. Holds schema (contents_with rows (flat_map value_rows es) kept) (state g.S.Store c.put_row.new.tx.conn.now)) (put_entry 1 nat_cmp report_row number_row (number_codec report_columns) id report es)
    (c.in_ok-put_row.ensures.changes first (contents_of kept) was.rows) in
    let cleared = c.in_ok-clear_values.ensures.changes second kept rows (flat_map value_rows es) row in
    record {
      rows = subst (λ values. Holds schema (contents_with rows values kept) (state g.S.Store c.put_values.new.tx.conn.now)) (report_put id report es (reports_rise kept old was))
          (put kept rows (rows_without 1 (number_row id) (flat_map value_rows es)) cleared);
      marks = was.marks;
      subs = was.subs;
    }) (rw c.as_slice.ensures at c.put_values.ensures.changes clean)
