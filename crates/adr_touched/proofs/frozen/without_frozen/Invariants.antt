use Rattle.std.proofs.Common.{◌≡◌, not, filter, Ok}
use Rattle.adr_db.proofs.Common.{state, HasCleanDisk, Refusal, LeavesLent}
use Rattle.adr_state.specs.Frozen.{is_frozen}
use Rattle.adr_db.specs.Kept.{Kept, Keeps}
use Rattle.adr_touched.proofs.frozen.without_frozen.Given as goal

-- those of the ones so far, and the tables hold what they held
abbrev pub invariant-keys : goal.invariant-keys
invariant-keys g l = record {
  lent : LeavesLent g.S.Store l.fn.tx.conn l.tx.conn {T = Unit {0}} {E = Refusal} (Ok tt);
  found : HasCleanDisk (state g.S.Store l.tx.conn.now) → (kept : Kept) → Keeps kept (state g.S.Store l.fn.tx.conn.now) → (l.left ≡ filter (λ key. not (is_frozen kept.portfolio key.id)) l.yielded) × Keeps kept (state g.S.Store l.tx.conn.now);
}
