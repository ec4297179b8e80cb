use Rattle.std.proofs.Common.{Ok}
use Rattle.std.specs.Prelude.{◌==◌}
use Rattle.std.specs.List.{list_any, filter_map}
use Rattle.adr_db.proofs.Common.{state, HasCleanDisk, Refusal, LeavesLent}
use Rattle.adr_db.specs.Kept.{Kept, Keeps}
use Rattle.adr_touched.specs.Answers.{HasEvents, frozen_by}
use Rattle.adr_touched.proofs.frozen.events_frozen_for_each.Given as goal

-- those of the ones so far, and the tables hold what they held
abbrev pub invariant-resources : goal.invariant-resources
invariant-resources g l = record {
  lent : LeavesLent g.S.Store l.fn.tx.conn l.tx.conn {T = Unit {0}} {E = Refusal} (Ok tt);
  found : HasCleanDisk (state g.S.Store l.tx.conn.now) → (kept : Kept) → Keeps kept (state g.S.Store l.fn.tx.conn.now) → HasEvents l.all.items (filter_map (frozen_by (λ m. list_any (λ n. m == n) l.yielded)) kept.portfolio.frozen_shares) × Keeps kept (state g.S.Store l.tx.conn.now);
}
