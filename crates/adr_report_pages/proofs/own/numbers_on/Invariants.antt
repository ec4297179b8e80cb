use Rattle.std.proofs.Common.{Ok}
use Rattle.adr_db.proofs.Common.{state, HasCleanDisk, Refusal, LeavesLent}
use Rattle.adr_db.specs.Kept.{Kept, Keeps}
use Rattle.adr_report_pages.specs.Columns.{on_any, with_resource}
use Rattle.adr_report_pages.specs.Firsts.{HaveFirst}
use Rattle.adr_report_pages.proofs.own.numbers_on.Given as goal

-- the first of those on the resources so far, and what the tables keep
abbrev pub invariant-resources : goal.invariant-resources
invariant-resources g l = record {
  lent : LeavesLent g.S.Store l.fn.tx.conn l.tx.conn {T = Unit {0}} {E = Refusal} (Ok tt);
  found : HasCleanDisk (state g.S.Store l.tx.conn.now) → (kept : Kept) → Keeps kept (state g.S.Store l.fn.tx.conn.now) → HaveFirst l.most (λ r. on_any l.yielded (with_resource r)) kept.portfolio.reports l.numbers × Keeps kept (state g.S.Store l.tx.conn.now);
}
