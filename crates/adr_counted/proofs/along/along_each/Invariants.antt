use Rattle.std.proofs.Common.{◌≡◌, Ok}
use Rattle.std.specs.Prelude.{take}
use Rattle.adr_db.proofs.Common.{state, HasCleanDisk, Refusal, LeavesLent}
use Rattle.adr_db.specs.Kept.{Kept, Keeps}
use Rattle.adr_counted.specs.Along.{along_each}
use Rattle.adr_counted.proofs.along.along_each.Given as goal

-- those of the ones so far, and the tables hold what they held
abbrev pub invariant-resources : goal.invariant-resources
invariant-resources g l = record {
  lent : LeavesLent g.S.Store l.fn.tx.conn l.tx.conn {T = Unit {0}} {E = Refusal} (Ok tt);
  found : HasCleanDisk (state g.S.Store l.tx.conn.now) → (kept : Kept) → Keeps kept (state g.S.Store l.fn.tx.conn.now) → (l.all ≡ along_each kept.portfolio (take l.resource-index l.resources)) × Keeps kept (state g.S.Store l.tx.conn.now);
}
