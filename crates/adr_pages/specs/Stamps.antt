-- Stamps that are among others, and keys at which some have what all have.
use Rattle.std.specs.Prelude.{◌≡◌, ◌≤◌, Bool, true, List, Some}
use Rattle.std.specs.List.{AllByRecursion}
use Rattle.adr_db.specs.declared.shown.ShownColumns.{ShownColumns}
use Rattle.adr_db.specs.declared.shown.ShownKey.{ShownKey}
use Rattle.adr_objects.specs.declared.shown.Stamps.{Stamps}
use Rattle.adr_state.specs.declared.keys.ViewKey.{ViewKey}
use Rattle.adr_state.specs.Keys.{view_cmp, at}
use Rattle.adr_pages.specs.Objects.{event_key}

-- what some have at a key is what all have at it
abbrev pub AreAmong : List (ViewKey × Stamps) → List (ViewKey × Stamps) → Type 0
AreAmong all some = (k : ViewKey) (stamps : Stamps) → at view_cmp k some ≡ Some stamps → at view_cmp k all ≡ Some stamps

-- some have at a key what all have at it, or neither has anything
abbrev pub IsFound : List (ViewKey × Stamps) → List (ViewKey × Stamps) → ViewKey → Type 0
IsFound all some k = at view_cmp k some ≡ at view_cmp k all

-- so it is at the key of each row
abbrev pub AreFound : List (ViewKey × Stamps) → List (ViewKey × Stamps) → List (ShownKey × ShownColumns) → Type 0
AreFound all some = AllByRecursion (λ e. IsFound all some (event_key e.0))

-- some of all become more: at each of these keys they have what all have, and where they had it they have it still
abbrev pub AreJoined : (all old new : List (ViewKey × Stamps)) → (ViewKey → Bool) → Type 0
AreJoined all old new is_put = AreAmong all old → AreAmong all new × ((k : ViewKey) → is_put k ≡ true → IsFound all new k) × ((k : ViewKey) → IsFound all old k → IsFound all new k)

-- a key is of the same event as one before it, and of no lesser resource
abbrev pub GoesOn : ShownKey → ShownKey → Type 0
GoesOn before key = (before.event ≡ key.event) × (before.resource ≤ key.resource)
