-- How what is shown stands in tables: the columns of a shown event and of a roll-up.
use Rattle.std.specs.Prelude.{ℕ, List, Option, None, Some}
use Rattle.std.specs.List.{filter_map}
use Rattle.adr_objects.specs.declared.report.Rollup.{Rollup}
use Rattle.adr_objects.specs.declared.shown.ShownEvent.{ShownEvent}
use Rattle.adr_state.specs.declared.keys.ViewKey.{ViewKey}
use Rattle.adr_state.specs.declared.keys.ViewKey.TheVariants as key
use Rattle.adr_view.specs.declared.view.Content.{Content}
use Rattle.adr_view.specs.declared.view.Content.TheVariants as content
use Rattle.adr_shown.specs.ShownTexts.{shown_text}
use Rattle.adr_shown.specs.RollupTexts.{kept_rollup_text}
use Rattle.adr_db.specs.declared.shown.RollupColumns.{RollupColumns}
use Rattle.adr_db.specs.declared.shown.ShownColumns.{ShownColumns}
use Rattle.adr_db.specs.declared.shown.ShownKey.{ShownKey}

-- what is kept of what a resource of this ven is shown
abbrev pub columns_of : ℕ → ShownEvent → ShownColumns
columns_of ven e = record { program = e.program; ven = ven; ven_name = e.ven_name; resource_name = e.resource_name; body = shown_text e }

-- what is kept of the roll-up of an upstream event
abbrev pub rollup_columns : List ℕ → Rollup → RollupColumns
rollup_columns id r = record { program = r.program; body = kept_rollup_text id r }

-- what is shown of an event at a key, as a row of `shown`, by the ven that owns each resource
abbrev pub shown_row : (ℕ → ℕ) → ViewKey × Content → Option (ShownKey × ShownColumns)
shown_row owner (key.Event id n, content.Event e) = Some (record { event = id; resource = n }, columns_of (owner n) e)
shown_row owner _ = None

-- a roll-up at its key, as a row of `rollup`
abbrev pub rollup_row : ViewKey × Content → Option (List ℕ × RollupColumns)
rollup_row (key.Rollup id, content.Rollup r) = Some (id, rollup_columns id r)
rollup_row _ = None

-- the rows of both tables
abbrev pub shown_rows : (ℕ → ℕ) → List (ViewKey × Content) → List (ShownKey × ShownColumns)
shown_rows owner rows = filter_map (shown_row owner) rows

abbrev pub rollup_rows : List (ViewKey × Content) → List (List ℕ × RollupColumns)
rollup_rows rows = filter_map rollup_row rows
