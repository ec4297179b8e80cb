-- What a refresh of an upstream event finds, and what it writes and answers for each resource.
use Rattle.std.specs.Prelude.{ℕ, Bool, List, [], map, filter, fold, option_map, Option, None, Some, Result, Ok, bytes_eq, if◌then◌else◌}
use Rattle.std.specs.List.{filter_map}
use Rattle.std.specs.BTreeMap.{insert_entry, is_at}
use Rattle.std.specs.BTreeSet.{insert_key}
use Rattle.std.specs.Map.{remove_entry}
use Rattle.std.specs.Option.{option_map_or}
use Rattle.std.specs.declared.cmp.Ordering.{Ordering}
use Rattle.std.specs.Ordering.{nat_cmp, is_eq}
use Rattle.adr_text.specs.declared.refusal.Refusal.{Refusal}
use Rattle.adr_objects.specs.declared.shown.ShownEvent.{ShownEvent}
use Rattle.adr_objects.specs.declared.shown.Stamps.{Stamps}
use Rattle.adr_state.specs.declared.base.Base.{Base}
use Rattle.adr_state.specs.declared.keys.ViewKey.{ViewKey}
use Rattle.adr_state.specs.declared.keys.ViewKey.TheVariants as key
use Rattle.adr_state.specs.declared.portfolio.Portfolio.{Portfolio}
use Rattle.adr_state.specs.Keys.{id_cmp, view_cmp, at, map_of}
use Rattle.adr_state.specs.Stamping.{fresh, modified_at}
use Rattle.adr_view.specs.declared.changes.Operation.{Operation}
use Rattle.adr_view.specs.declared.changes.Operation.TheVariants.{Post, Put, Delete}
use Rattle.adr_view.specs.declared.view.Content.{Content}
use Rattle.adr_view.specs.declared.view.Content.TheVariants as content
use Rattle.adr_view.specs.Laws.{is_key_of}
use Rattle.adr_view.specs.Views.{shown_of as shown_now}
use Rattle.adr_shown.specs.ShownTexts.{shown_text}
use Rattle.adr_shown.specs.ReadShown.{shown_of}
use Rattle.adr_db.specs.declared.shown.ShownColumns.{ShownColumns}
use Rattle.adr_db.specs.declared.shown.ShownKey.{ShownKey}
use Rattle.adr_db.specs.Bases.{Beside}
use Rattle.adr_db.specs.Kept.{Kept}
use Rattle.adr_db.specs.ShownKeys.{shown_cmp}
use Rattle.adr_kept_view.specs.declared.change.ShownChange.{ShownChange}
use Rattle.adr_kept_view.specs.declared.found.Found.{Found}
use Rattle.adr_kept_view.specs.Columns.{columns_of}

-- ---- what is found

-- what is kept, behind the number of the resource
abbrev pub kept_row : ShownKey × ShownColumns → ℕ × ShownColumns
kept_row e = (e.0.resource, e.1)

-- what is made of a row at the key of a resource, behind its number; of other keys nothing
abbrev pub numbered : {V W : Type 0} → (V → Option W) → ViewKey × V → Option (ℕ × W)
numbered of_value (key.Event id n, v) = option_map (λ w. (n, w)) (of_value v)
numbered of_value _ = None

-- an event that is shown
abbrev pub event_in : Content → Option ShownEvent
event_in (content.Event e) = Some e
event_in _ = None

-- stamps of what a resource is shown, and what it is shown, behind its number
abbrev pub stamps_row : ViewKey × Stamps → Option (ℕ × Stamps)
stamps_row e = numbered (λ stamps. Some stamps) e

abbrev pub event_row : ViewKey × Content → Option (ℕ × ShownEvent)
event_row r = numbered event_in r

-- the rows of `shown` of one event, and the stamps of one
abbrev pub rows_kept : List ℕ → List (ShownKey × ShownColumns) → List (ShownKey × ShownColumns)
rows_kept id rows = filter (λ e. is_eq (id_cmp id e.0.event)) rows

abbrev pub rows_stamped : List ℕ → List (ViewKey × Stamps) → List (ViewKey × Stamps)
rows_stamped id rows = filter (λ e. is_key_of id e.0) rows

-- what a refresh of an event finds in tables that hold a base, beside these
abbrev pub found_of : Beside → Base → List ℕ → Found
found_of beside base id = record {
  kept = map_of nat_cmp (map kept_row (rows_kept id beside.shown));
  stamps = map_of nat_cmp (filter_map stamps_row (rows_stamped id beside.stamps));
  shown = map_of nat_cmp (filter_map event_row (shown_now base id));
}

-- ---- one resource

-- the ven that owns a resource, where it is there
abbrev pub owner_in : Portfolio → ℕ → ℕ
owner_in p n = option_map_or (λ r. r.ven) (at nat_cmp n p.resources) 0

-- whether what is kept is of this
abbrev pub says : ShownColumns → ShownEvent → Bool
says columns e = bytes_eq columns.body (shown_text e)

-- the stamps of what differs: when it was created stays
abbrev pub put_stamps : ℕ → Option Stamps → Stamps
put_stamps now None = fresh now
put_stamps now (Some stamps) = modified_at now stamps

-- what goes, with its stamps
abbrev pub gone : ℕ → ℕ → Option Stamps → Result ShownEvent Refusal → Option ShownChange
gone n ven (Some stamps) (Ok e) = Some (record { resource = n; operation = Delete; shown = e; stamps = stamps; ven = ven })
gone n ven _ _ = None

-- what becomes of what a resource is shown: by what is kept, its stamps, and what is shown now. It appears with both
-- stamps now; it goes; it differs, where what is kept is not of it; or it stays
abbrev pub change_at : Portfolio → ℕ → ℕ → Option ShownColumns → Option Stamps → Option ShownEvent → Option ShownChange
change_at p now n None stamps None = None
change_at p now n None stamps (Some e) = Some (record { resource = n; operation = Post; shown = e; stamps = fresh now; ven = owner_in p n })
change_at p now n (Some columns) stamps None = gone n columns.ven stamps (shown_of columns.body)
change_at p now n (Some columns) stamps (Some e) = if says columns e then None else Some (record { resource = n; operation = Put; shown = e; stamps = put_stamps now stamps; ven = owner_in p n })

-- ---- what is written

-- a row is put, or goes
abbrev pub written : {K V : Type 0} → (K → K → Ordering) → Operation → K → V → List (K × V) → List (K × V)
written cmp Post k v rows = insert_entry cmp rows k v
written cmp Put k v rows = insert_entry cmp rows k v
written cmp Delete k v rows = remove_entry (is_at (cmp k)) rows

-- so is what a change, if there is one, says of a resource
abbrev pub with_change : {K V : Type 0} → (K → K → Ordering) → (ℕ → K) → (ShownChange → V) → Option ShownChange → List (K × V) → List (K × V)
with_change cmp key_of value_of None rows = rows
with_change cmp key_of value_of (Some c) rows = written cmp c.operation (key_of c.resource) (value_of c) rows

-- the rows of `shown` behind a change, and the stamps behind it
abbrev pub shown_with : List ℕ → Option ShownChange → List (ShownKey × ShownColumns) → List (ShownKey × ShownColumns)
shown_with id c rows = with_change shown_cmp (λ n. record { event = id; resource = n }) (λ c. columns_of c.ven c.shown) c rows

abbrev pub stamps_with : List ℕ → Option ShownChange → List (ViewKey × Stamps) → List (ViewKey × Stamps)
stamps_with id c rows = with_change view_cmp (key.Event id) (λ c. c.stamps) c rows

-- what is kept behind it
abbrev pub kept_with : List ℕ → Option ShownChange → Kept → Kept
kept_with id c kept = record kept { shown = shown_with id c kept.shown; stamps = stamps_with id c kept.stamps }

-- ---- one resource after another

-- the numbers of maps, each once, in order
abbrev pub with_numbers : {V : Type 0} → List ℕ → List (ℕ × V) → List ℕ
with_numbers ns rows = fold (λ ns r. insert_key nat_cmp ns r.0) ns rows

-- the resources of which something is kept or shown
abbrev pub numbers_of : Found → List ℕ
numbers_of found = with_numbers (with_numbers [] found.kept) found.shown

-- what becomes of what a resource is shown by what was found
abbrev pub change_found : Portfolio → ℕ → Found → ℕ → Option ShownChange
change_found p now found n = change_at p now n (at nat_cmp n found.kept) (at nat_cmp n found.stamps) (at nat_cmp n found.shown)

-- the changes, by the numbers of the resources
abbrev pub changes_found : Portfolio → ℕ → Found → List ShownChange
changes_found p now found = filter_map (change_found p now found) (numbers_of found)

-- the rows of `shown`, and the stamps, behind the changes of these resources
abbrev pub shown_with_each : List ℕ → (ℕ → Option ShownChange) → List (ShownKey × ShownColumns) → List ℕ → List (ShownKey × ShownColumns)
shown_with_each id change rows ns = fold (λ rows n. shown_with id (change n) rows) rows ns

abbrev pub stamps_with_each : List ℕ → (ℕ → Option ShownChange) → List (ViewKey × Stamps) → List ℕ → List (ViewKey × Stamps)
stamps_with_each id change rows ns = fold (λ rows n. stamps_with id (change n) rows) rows ns
