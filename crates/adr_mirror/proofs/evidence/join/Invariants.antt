use Rattle.std.proofs.Common.{take, Ok}
use Rattle.adr_db.proofs.Common.{state, HasCleanDisk, Refusal, LeavesLent, evidence_of, joined}
use Rattle.adr_db.specs.Kept.{Kept, Keeps}
use Rattle.adr_mirror.specs.Raises.{HasRisen, with_joined}
use Rattle.adr_mirror.proofs.evidence.join.Given as goal

-- the versions so far have joined the mirror
abbrev pub invariant-founds : goal.invariant-founds
invariant-founds g l = record {
  lent : LeavesLent g.S.Store l.fn.tx.conn l.tx.conn {T = Unit {0}} {E = Refusal} (Ok tt);
  turned : HasCleanDisk (state g.S.Store l.tx.conn.now) → (kept : Kept) → Keeps kept (state g.S.Store l.fn.tx.conn.now)
      → HasRisen kept.mirror (joined kept.mirror (evidence_of (take l.found-index l.founds))) l.risen × Keeps (with_joined (evidence_of (take l.found-index l.founds)) kept) (state g.S.Store l.tx.conn.now);
}
