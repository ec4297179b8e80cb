use Rattle.std.proofs.Common.{◌≡◌, map, Ok}
use Rattle.adr_db.proofs.Common.{state, HasCleanDisk, Refusal, LeavesLent}
use Rattle.adr_db.specs.Kept.{Kept, Keeps, report_of}
use Rattle.adr_db_portfolio.proofs.report.with_values.Given as goal

abbrev pub invariant-rows : goal.invariant-rows
invariant-rows g l = record {
  lent : LeavesLent g.S.Store l.fn.tx.conn l.tx.conn {T = Unit {0}} {E = Refusal} (Ok tt);
  found : HasCleanDisk (state g.S.Store l.tx.conn.now) → (kept : Kept) → Keeps kept (state g.S.Store l.fn.tx.conn.now) → (l.reports ≡ map (report_of kept) l.yielded) × Keeps kept (state g.S.Store l.tx.conn.now);
}
