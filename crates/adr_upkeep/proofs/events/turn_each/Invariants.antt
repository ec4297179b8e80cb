use Rattle.std.proofs.Common.{◌≡◌, ◌++◌, Ok, List}
use Rattle.std.specs.List.{All, filter_map}
use Rattle.adr_db.proofs.Common.{state, HasCleanDisk, Refusal, LeavesLent, Stamps, ViewKey}
use Rattle.adr_db.specs.declared.shown.ShownColumns.{ShownColumns}
use Rattle.adr_db.specs.declared.shown.ShownKey.{ShownKey}
use Rattle.adr_db.specs.Kept.{Kept, Keeps}
use Rattle.adr_kept_view.specs.Changes.{numbers_of, change_found, changes_found, shown_with_each, stamps_with_each}
use Rattle.adr_kept_view.specs.Laws.{ReadsFound}
use Rattle.adr_upkeep.proofs.events.turn_each.Given as goal

-- what the resources that are left make of the tables now is what all make of those that were; so are the changes, and the
-- texts that read back
abbrev pub invariant-resources : goal.invariant-resources
invariant-resources g l = record {
  lent : LeavesLent g.S.Store l.fn.tx.conn l.tx.conn {T = Unit {0}} {E = Refusal} (Ok tt);
  turned : HasCleanDisk (state g.S.Store l.tx.conn.now) → (kept : Kept) → Keeps kept (state g.S.Store l.fn.tx.conn.now)
      → (shown : List (ShownKey × ShownColumns)) × (stamps : List (ViewKey × Stamps)) × Keeps (record kept { shown = shown; stamps = stamps }) (state g.S.Store l.tx.conn.now)
      × (shown_with_each l.event (change_found kept.portfolio l.now l.found) shown l.resource-iterator ≡ shown_with_each l.event (change_found kept.portfolio l.now l.found) kept.shown (numbers_of l.found))
      × (stamps_with_each l.event (change_found kept.portfolio l.now l.found) stamps l.resource-iterator ≡ stamps_with_each l.event (change_found kept.portfolio l.now l.found) kept.stamps (numbers_of l.found))
      × (l.changes.items ++ filter_map (change_found kept.portfolio l.now l.found) l.resource-iterator ≡ changes_found kept.portfolio l.now l.found);
  reads : All (ReadsFound l.found) l.resource-iterator → All (ReadsFound l.found) (numbers_of l.found);
}
