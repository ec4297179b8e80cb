use Rattle.std.proofs.Common.{Ok}
use Rattle.adr_db.proofs.Common.{state, HasCleanDisk, Refusal, LeavesLent}
use Rattle.adr_db.specs.Kept.{Kept, Keeps}
use Rattle.adr_outbox.specs.Dropped.{without_entries}
use Rattle.adr_outbox.proofs.dropping.remove_each.Given as goal

-- those of the numbers so far are gone
abbrev pub invariant-numbers : goal.invariant-numbers
invariant-numbers g l = record {
  lent : LeavesLent g.S.Store l.fn.tx.conn l.tx.conn {T = Unit {0}} {E = Refusal} (Ok tt);
  gone : HasCleanDisk (state g.S.Store l.tx.conn.now) → (kept : Kept) → Keeps kept (state g.S.Store l.fn.tx.conn.now) → Keeps (record kept { entries = without_entries l.yielded kept.entries }) (state g.S.Store l.tx.conn.now);
}
