use Rattle.std.proofs.Common.{Ok}
use Rattle.std.specs.List.{list_any}
use Rattle.adr_db.proofs.Common.{state, HasCleanDisk, Refusal, LeavesLent}
use Rattle.adr_db.specs.Kept.{Kept, Keeps}
use Rattle.adr_refresh.specs.Touched.{shares_in}
use Rattle.adr_touched.specs.Answers.{HasEvents, live_events}
use Rattle.adr_touched.proofs.events.events_shared_by_each.Given as goal

-- those of the ones so far, and the tables hold what they held
abbrev pub invariant-resources : goal.invariant-resources
invariant-resources g l = record {
  lent : LeavesLent g.S.Store l.fn.tx.conn l.tx.conn {T = Unit {0}} {E = Refusal} (Ok tt);
  found : HasCleanDisk (state g.S.Store l.tx.conn.now) → (kept : Kept) → Keeps kept (state g.S.Store l.fn.tx.conn.now) → HasEvents l.all.items (live_events (λ p. list_any (λ n. shares_in kept.portfolio n p) l.yielded) kept) × Keeps kept (state g.S.Store l.tx.conn.now);
}
