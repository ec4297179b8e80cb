use Rattle.std.proofs.Common.{take, Ok}
use Rattle.std.specs.Prelude.{All}
use Rattle.adr_db.proofs.Common.{state, HasCleanDisk, Refusal, LeavesLent}
use Rattle.adr_db.specs.Kept.{Kept, Keeps}
use Rattle.adr_listeners.specs.Listeners.{AreThose}
use Rattle.adr_visit.specs.Heard.{IsHeard}
use Rattle.adr_visit.proofs.heard.read_for.Given as goal

-- those that may hear of the changes so far were read
abbrev pub invariant-changes : goal.invariant-changes
invariant-changes g l = record {
  lent : LeavesLent g.S.Store l.fn.tx.conn l.tx.conn {T = Unit {0}} {E = Refusal} (Ok tt);
  finds : HasCleanDisk (state g.S.Store l.tx.conn.now) → (kept : Kept) → Keeps kept (state g.S.Store l.fn.tx.conn.now) → AreThose kept l.fn.listeners → AreThose kept l.listeners × Keeps kept (state g.S.Store l.tx.conn.now);
  heard : All (IsHeard (g.T.Tells.told l.teller) l.listeners) (take l.change-index l.changes);
}
