-- The changes between two views, and the stamps after them.
use Rattle.std.specs.Prelude.{ℕ, Bool, true, false, List, [], ◌++◌, map, fold, Option, None, Some, if◌then◌else◌}
use Rattle.std.specs.List.{filter_map}
use Rattle.std.specs.BTreeSet.{insert_key}
use Rattle.adr_objects.specs.declared.shown.Stamps.{Stamps}
use Rattle.adr_state.specs.declared.keys.ViewKey.{ViewKey}
use Rattle.adr_state.specs.declared.keys.ViewKey.TheVariants as key
use Rattle.adr_view.specs.declared.view.Content.{Content}
use Rattle.adr_view.specs.declared.changes.Operation.TheVariants as operation
use Rattle.adr_view.specs.declared.changes.Change.{Change}
use Rattle.adr_state.specs.Keys.{view_cmp, at, map_of}
use Rattle.adr_view.specs.Same.{is_same_content}

-- ---- changes

-- the keys of two views, in order
abbrev pub both_keys : List (ViewKey × Content) → List (ViewKey × Content) → List ViewKey
both_keys before after = fold (λ keys r. insert_key view_cmp keys r.0) [] (before ++ after)

-- whether it is a change where what stands at a key goes: of a roll-up it is none
abbrev pub is_change_to_go : ViewKey → Bool
is_change_to_go (key.Rollup id) = false
is_change_to_go _ = true

-- how what is shown at a key changes: it appears, differs, goes, or stays
abbrev pub change_by : ViewKey → Option Content → Option Content → Option Change
change_by k None None = None
change_by k None (Some new) = Some (record { key = k; operation = operation.Post })
change_by k (Some old) None = if is_change_to_go k then Some (record { key = k; operation = operation.Delete }) else None
change_by k (Some old) (Some new) = if is_same_content old new then None else Some (record { key = k; operation = operation.Put })

-- the changes from one view to another, in the order of the keys: what appears, what differs, and what goes, but for
-- a roll-up that goes
unfoldable pub changes : List (ViewKey × Content) → List (ViewKey × Content) → List Change
changes before after = filter_map (λ key. change_by key (at view_cmp key before) (at view_cmp key after)) (both_keys before after)

-- ---- stamps

-- a key that appears gets both stamps now; one that differs gets the modified stamp; one that is shown as before keeps its stamps
abbrev pub stamps_by : Option Content → Option Stamps → ℕ → Content → Stamps
stamps_by (Some old) (Some stamps) now new = if is_same_content old new then stamps else record stamps { modified = now }
stamps_by (Some old) None now new = record { created = now; modified = now }
stamps_by None stamps now new = record { created = now; modified = now }

-- the stamps of a key after a change from one view to another
abbrev pub stamps_for : List (ViewKey × Stamps) → List (ViewKey × Content) → ℕ → ViewKey × Content → ViewKey × Stamps
stamps_for stamps before now r = (r.0, stamps_by (at view_cmp r.0 before) (at view_cmp r.0 stamps) now r.1)

-- the stamps after a change from one view to another: a key that appears gets both stamps now, one that differs the
-- modified stamp, one that is shown as before keeps its stamps, and one that goes loses its own, a roll-up too
unfoldable pub restamped : List (ViewKey × Stamps) → List (ViewKey × Content) → List (ViewKey × Content) → ℕ → List (ViewKey × Stamps)
restamped stamps before after now = map_of view_cmp (map (stamps_for stamps before now) after)
