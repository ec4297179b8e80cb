use Rattle.std.proofs.Common.{◌≡◌, map, Some, Ok}
use Rattle.adr_db.proofs.Common.{state, HasCleanDisk, Refusal, LeavesLent}
use Rattle.adr_db.specs.Kept.{Kept, Keeps}
use Rattle.adr_report_pages.specs.Objects.{object_kept}
use Rattle.adr_report_pages.proofs.objects.objects_of.Given as goal

abbrev pub invariant-rows : goal.invariant-rows
invariant-rows g l = record {
  lent : LeavesLent g.S.Store l.fn.tx.conn l.tx.conn {T = Unit {0}} {E = Refusal} (Ok tt);
  found : HasCleanDisk (state g.S.Store l.tx.conn.now) → (kept : Kept) → Keeps kept (state g.S.Store l.fn.tx.conn.now) → (map Some l.objects ≡ map (object_kept kept) l.yielded) × Keeps kept (state g.S.Store l.tx.conn.now);
}
