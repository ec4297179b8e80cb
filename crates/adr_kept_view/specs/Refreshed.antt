-- What it is that what tables keep was refreshed: it is what the refresh of the source leaves, and what is answered is
-- what that tells.
use Rattle.std.specs.Prelude.{◌≡◌, ℕ, List, [], map, Some, All}
use Rattle.adr_objects.specs.declared.shown.Stamps.{Stamps}
use Rattle.adr_state.specs.declared.base.Base.{Base}
use Rattle.adr_state.specs.declared.keys.ViewKey.{ViewKey}
use Rattle.adr_state.specs.declared.keys.ViewKey.TheVariants as key
use Rattle.adr_state.specs.Keys.{view_cmp, at}
use Rattle.adr_view.specs.declared.changes.Operation.{Operation}
use Rattle.adr_view.specs.declared.changes.Operation.TheVariants.{Post, Put, Delete}
use Rattle.adr_view.specs.declared.view.Content.{Content}
use Rattle.adr_view.specs.declared.view.Content.TheVariants as content
use Rattle.adr_refresh.specs.Sources.{Source, RolledUp}
use Rattle.adr_refresh.specs.Touched.{upstream_event}
use Rattle.adr_refresh.specs.Refresh.{Books, refreshed}
use Rattle.adr_db.specs.Bases.{Beside}
use Rattle.adr_kept_view.specs.declared.change.ShownChange.{ShownChange}
use Rattle.adr_kept_view.specs.declared.change.RollupChange.{RollupChange}
use Rattle.adr_kept_view.specs.Columns.{shown_rows, rollup_rows}
use Rattle.adr_kept_view.specs.KeptViews.{KeepsView}

-- the books of tables that keep these rows, with nothing told yet, once a source was refreshed behind a change from one
-- base to another
abbrev pub books_behind : List (ViewKey × Content) → Beside → Base → Base → ℕ → Source → Books
books_behind rows beside before base now s = refreshed before base now (record { kept = rows; told = []; stamps = beside.stamps }) s

-- what stands beside a base with what books keep, and their stamps
abbrev pub with_books : (ℕ → ℕ) → Books → Beside → Beside
with_books owner books beside = record beside { shown = shown_rows owner books.kept; rollups = rollup_rows books.kept; stamps = books.stamps }

-- what appears or differs is as it is then, and what goes as it was before
abbrev pub judged_in : {A : Type 0} → Operation → A → A → A
judged_in Post before after = after
judged_in Put before after = after
judged_in Delete before after = before

-- the two sides of a change: the base before it and after it, the ven that owns each resource, and the rows that tables
-- keep and the stamps, as a source is refreshed
pub record Sides : Type 0 where
  pub before : Base
  pub after : Base
  pub owner : ℕ → ℕ
  pub rows : List (ViewKey × Content)
  pub stamps : List (ViewKey × Stamps)

-- a part of the view that is refreshed item by item, where changes of one type tell what differs: the source of an item, a
-- change as a row of what is told, when a change is right, by the books behind it, and when an item says right what was
-- shown before
pub record Part (I C : Type 0) : Type 1 where
  pub source : I → Source
  pub row : I → C → ViewKey × Operation
  pub IsRight : Sides → Books → I → C → Type 0
  pub WasSo : Base → I → Type 0

-- what stands beside the base then has what the books keep of the source of the item, and its stamps, and keeps what is
-- shown still; and the changes are what is told, in the order of the keys, each of them right
pub record IsRefreshed {I C : Type 0} (part : Part I C) (owner : ℕ → ℕ) (rows : List (ViewKey × Content)) (beside : Beside) (before base : Base) (now : ℕ) (item : I) (changes : List C) (later : Beside) : Type 0 where
  pub tables : later ≡ with_books owner (books_behind rows beside before base now (part.source item)) beside
  pub keeps : KeepsView owner (books_behind rows beside before base now (part.source item)).kept later
  pub told : map (part.row item) changes ≡ (books_behind rows beside before base now (part.source item)).told
  pub each : All (part.IsRight (record { before = before; after = base; owner = owner; rows = rows; stamps = beside.stamps }) (books_behind rows beside before base now (part.source item)) item) changes

-- ---- what the resources are shown

-- a change is of what stands at its key, with its stamps, and of the ven that owns the resource
pub record IsTold (owner : ℕ → ℕ) (rows : List (ViewKey × Content)) (stamps_before : List (ViewKey × Stamps)) (books : Books) (id : List ℕ) (c : ShownChange) : Type 0 where
  pub shown : at view_cmp (key.Event id c.resource) (judged_in c.operation rows books.kept) ≡ Some (content.Event c.shown)
  pub stamps : at view_cmp (key.Event id c.resource) (judged_in c.operation stamps_before books.stamps) ≡ Some c.stamps
  pub ven : owner c.resource ≡ c.ven

-- as a row of what is told
abbrev pub told_row : List ℕ → ShownChange → ViewKey × Operation
told_row id c = (key.Event id c.resource, c.operation)

-- upstream events, by their ids, as they are shown to their participants
abbrev pub as_shown : Part (List ℕ) ShownChange
as_shown = record { source = upstream_event; row = told_row; IsRight = λ sides books id c. IsTold sides.owner sides.rows sides.stamps books id c; WasSo = λ before id. Unit {0} }

-- ---- the roll-up

-- a change is of what stands at the key of the roll-up
abbrev pub IsRollupTold : List (ViewKey × Content) → Books → List ℕ → RollupChange → Type 0
IsRollupTold rows books id c = at view_cmp (key.Rollup id) (judged_in c.operation rows books.kept) ≡ Some (content.Rollup c.rollup)

-- as a row of what is told
abbrev pub rollup_told : List ℕ → RollupChange → ViewKey × Operation
rollup_told id c = (key.Rollup id, c.operation)

-- upstream events as they are rolled up; where a roll-up goes, nothing is told
abbrev pub as_rolled_up : Part (List ℕ) RollupChange
as_rolled_up = record { source = λ id. RolledUp id; row = rollup_told; IsRight = λ sides books id c. IsRollupTold sides.rows books id c; WasSo = λ before id. Unit {0} }
