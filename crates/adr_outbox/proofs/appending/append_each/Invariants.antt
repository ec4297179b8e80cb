use Rattle.std.proofs.Common.{◌≡◌, ◌+◌, ◌≤◌, ℕ, List, length, drop, Ok}
use Rattle.adr_delivery.specs.declared.entry.Entry.{Entry}
use Rattle.adr_delivery.specs.Outboxes.{with_entries}
use Rattle.adr_notices.specs.Committed.{numbered}
use Rattle.adr_db.proofs.Common.{state, HasCleanDisk, Refusal, LeavesLent}
use Rattle.adr_db.specs.Kept.{Kept, Keeps}
use Rattle.adr_outbox.proofs.appending.append_each.Given as goal

-- the entries that are left, appended to those so far, make what all of them make of those at the start
abbrev pub invariant-entries : goal.invariant-entries
invariant-entries g l = record {
  lent : LeavesLent g.S.Store l.fn.tx.conn l.tx.conn {T = Unit {0}} {E = Refusal} (Ok tt);
  drawn : l.meta.serial ≡ l.fn.meta.serial + l.entry-index;
  few : l.meta.pending ≤ l.fn.meta.pending + l.entry-index;
  others : l.meta ≡ record l.fn.meta { serial = l.meta.serial; pending = l.meta.pending };
  put : HasCleanDisk (state g.S.Store l.tx.conn.now) → (kept : Kept) → Keeps kept (state g.S.Store l.fn.tx.conn.now)
      → (now : List (ℕ × Entry)) × Keeps (record kept { entries = now }) (state g.S.Store l.tx.conn.now) × (l.fn.meta.pending ≡ length kept.entries → l.meta.pending ≡ length now)
      × (with_entries (numbered l.meta.serial (drop l.entry-index l.entries)) now ≡ with_entries (numbered l.fn.meta.serial l.entries) kept.entries);
}
