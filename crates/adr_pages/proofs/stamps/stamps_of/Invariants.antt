use Rattle.std.proofs.Common.{◌≤◌, take, Ok}
use Rattle.adr_db.proofs.Common.{state, HasCleanDisk, Refusal, LeavesLent}
use Rattle.adr_db.specs.Kept.{Kept, Keeps}
use Rattle.adr_db_shown.specs.Entries.{is_key_between}
use Rattle.adr_pages.specs.Stamps.{AreAmong}
use Rattle.adr_pages.proofs.StampLemmas.{AreFoundBut}
use Rattle.adr_pages.proofs.stamps.stamps_of.Given as goal

abbrev pub invariant-rows : goal.invariant-rows
invariant-rows g l = record {
  lent : LeavesLent g.S.Store l.fn.tx.conn l.tx.conn {T = Unit {0}} {E = Refusal} (Ok tt);
  begun : l.first ≤ l.last.resource;
  found : HasCleanDisk (state g.S.Store l.tx.conn.now) → (kept : Kept) → Keeps kept (state g.S.Store l.fn.tx.conn.now) → AreAmong kept.stamps l.stamps × AreFoundBut kept.stamps l.stamps (is_key_between l.last.event l.first l.last.resource) (take l.row-index l.rows) × Keeps kept (state g.S.Store l.tx.conn.now);
}
