use Rattle.std.proofs.Common.{take, Ok}
use Rattle.adr_db.proofs.Common.{state, HasCleanDisk, Refusal, LeavesLent}
use Rattle.adr_db.specs.Kept.{Kept, Keeps}
use Rattle.adr_mirror.specs.Raises.{with_keys_polled}
use Rattle.adr_mirror.proofs.evidence.poll_each.Given as goal

-- the keys so far are polled
abbrev pub invariant-founds : goal.invariant-founds
invariant-founds g l = record {
  lent : LeavesLent g.S.Store l.fn.tx.conn l.tx.conn {T = Unit {0}} {E = Refusal} (Ok tt);
  polled : HasCleanDisk (state g.S.Store l.tx.conn.now) → (kept : Kept) → Keeps kept (state g.S.Store l.fn.tx.conn.now) → Keeps (with_keys_polled (take l.found-index l.founds) kept) (state g.S.Store l.tx.conn.now);
}
