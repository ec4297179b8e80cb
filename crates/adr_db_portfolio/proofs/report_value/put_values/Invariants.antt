use Rattle.std.proofs.Common.{◌≡◌, List, drop, Ok}
use Rattle.adr_db.proofs.Common.{state, HasCleanDisk, Row, Refusal, LeavesLent, Holds}
use Rattle.adr_db.specs.Tables.{schema}
use Rattle.adr_db.specs.Rows.{value_rows_from}
use Rattle.adr_db.specs.Kept.{Kept, contents_with, with_value_rows}
use Rattle.adr_db_portfolio.proofs.report_value.put_values.Given as goal

-- the intervals that are left, put in the rows so far, make what all of them make of the rows at the start
abbrev pub invariant-intervals : goal.invariant-intervals
invariant-intervals g l = record {
  lent : LeavesLent g.S.Store l.fn.tx.conn l.tx.conn {T = Unit {0}} {E = Refusal} (Ok tt);
  put : HasCleanDisk (state g.S.Store l.tx.conn.now) → (kept : Kept) (reports values : List Row) → Holds schema (contents_with reports values kept) (state g.S.Store l.fn.tx.conn.now)
      → (now : List Row) × Holds schema (contents_with reports now kept) (state g.S.Store l.tx.conn.now) × (with_value_rows (value_rows_from l.report l.place (drop l.place l.intervals)) now ≡ with_value_rows (value_rows_from l.report 0 l.intervals) values);
}
