-- What a refresh of the roll-up of an upstream event writes and answers.
use Rattle.std.specs.Prelude.{ℕ, Bool, true, false, List, Option, None, Some, option_map, bytes_eq, if◌then◌else◌}
use Rattle.std.specs.BTreeMap.{insert_entry, is_at}
use Rattle.std.specs.Map.{remove_entry}
use Rattle.std.specs.declared.cmp.Ordering.{Ordering}
use Rattle.adr_objects.specs.declared.report.Rollup.{Rollup}
use Rattle.adr_objects.specs.declared.shown.Stamps.{Stamps}
use Rattle.adr_state.specs.declared.keys.ViewKey.{ViewKey}
use Rattle.adr_state.specs.declared.keys.ViewKey.TheVariants as key
use Rattle.adr_state.specs.Keys.{id_cmp, view_cmp}
use Rattle.adr_state.specs.Stamping.{fresh}
use Rattle.adr_view.specs.declared.changes.Operation.TheVariants.{Post, Put}
use Rattle.adr_shown.specs.RollupTexts.{kept_rollup_text}
use Rattle.adr_db.specs.declared.shown.RollupColumns.{RollupColumns}
use Rattle.adr_db.specs.Kept.{Kept}
use Rattle.adr_kept_view.specs.declared.change.RollupChange.{RollupChange}
use Rattle.adr_kept_view.specs.Columns.{rollup_columns}
use Rattle.adr_kept_view.specs.Changes.{put_stamps}

-- whether what is kept is of this
abbrev pub says : List ℕ → RollupColumns → Rollup → Bool
says id columns r = bytes_eq columns.body (kept_rollup_text id r)

-- whether the roll-up stays as it is kept
abbrev pub stays : List ℕ → Option RollupColumns → Option Rollup → Bool
stays id None None = true
stays id None (Some r) = false
stays id (Some columns) None = false
stays id (Some columns) (Some r) = says id columns r

-- what is told of a roll-up: it appears, or differs, where what is kept is not of it; where it goes, nothing is
abbrev pub change_of : List ℕ → Option RollupColumns → Option Rollup → Option RollupChange
change_of id old None = None
change_of id None (Some r) = Some (record { operation = Post; rollup = r })
change_of id (Some columns) (Some r) = if says id columns r then None else Some (record { operation = Put; rollup = r })

-- a map with this at a key, or nothing
abbrev pub set_at : {K V : Type 0} → (K → K → Ordering) → K → Option V → List (K × V) → List (K × V)
set_at cmp k None rows = remove_entry (is_at (cmp k)) rows
set_at cmp k (Some v) rows = insert_entry cmp rows k v

-- the rows of `rollup` then: one that goes loses its row
abbrev pub rollups_with : List ℕ → Option RollupColumns → Option Rollup → List (List ℕ × RollupColumns) → List (List ℕ × RollupColumns)
rollups_with id old new rows = if stays id old new then rows else set_at id_cmp id (option_map (rollup_columns id) new) rows

-- the stamps of a roll-up that appears or differs
abbrev pub stamps_now : ℕ → Option RollupColumns → Option Stamps → Stamps
stamps_now now None stamps = fresh now
stamps_now now (Some columns) stamps = put_stamps now stamps

-- and all stamps then: those of one that goes go too
abbrev pub stamps_with : List ℕ → ℕ → Option RollupColumns → Option Stamps → Option Rollup → List (ViewKey × Stamps) → List (ViewKey × Stamps)
stamps_with id now old stamps new rows = if stays id old new then rows else set_at view_cmp (key.Rollup id) (option_map (λ r. stamps_now now old stamps) new) rows

-- what is kept then
abbrev pub kept_with : List ℕ → ℕ → Option RollupColumns → Option Stamps → Option Rollup → Kept → Kept
kept_with id now old stamps new kept = record kept { rollups = rollups_with id old new kept.rollups; stamps = stamps_with id now old stamps new kept.stamps }
