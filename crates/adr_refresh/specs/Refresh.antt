-- What tables keep of the view, what is told, and the stamps, refreshed source by source.
use Rattle.std.specs.Prelude.{◌≡◌, ℕ, Bool, false, true, List, [], fold, map, is_some, if◌then◌else◌}
use Rattle.std.specs.List.Sorted.{IsStrictlySortedBy}
use Rattle.std.specs.Map.{keys_of}
use Rattle.adr_objects.specs.declared.shown.Stamps.{Stamps}
use Rattle.adr_state.specs.declared.base.Base.{Base}
use Rattle.adr_state.specs.declared.keys.ViewKey.{ViewKey}
use Rattle.adr_state.specs.Keys.{view_cmp, at, with_rows}
use Rattle.adr_view.specs.declared.changes.Change.{Change}
use Rattle.adr_view.specs.declared.changes.Operation.{Operation}
use Rattle.adr_view.specs.declared.view.Content.{Content}
use Rattle.adr_view.specs.Changes.{changes, restamped}
use Rattle.adr_view.specs.Views.{view}
use Rattle.adr_refresh.specs.Maps.{rows_at, rows_beside}
use Rattle.adr_refresh.specs.Sources.{Source, Upstream, Reported, RolledUp, source_of, is_of, rows_of}
use Rattle.adr_refresh.specs.Touched.{is_event}

-- tables keep the rows of events and of roll-ups; those of programs and reports are made of what they are shown from
abbrev pub is_kept : Source → Bool
is_kept (Upstream k) = is_event k.kind
is_kept (Reported n) = false
is_kept (RolledUp id) = true

-- what tables keep of the view of a base
abbrev pub kept_view : Base → List (ViewKey × Content)
kept_view base = rows_at (λ k. is_kept (source_of k)) (view base)

-- a map with these rows in the place of those at the keys of a source
abbrev pub with_rows_of : {V : Type 0} → Source → List (ViewKey × V) → List (ViewKey × V) → List (ViewKey × V)
with_rows_of s m rows = with_rows view_cmp (rows_beside (is_of s) m) rows

-- a change as a row
abbrev pub as_row : Change → ViewKey × Operation
as_row c = (c.key, c.operation)

-- the changes between two maps, as rows
abbrev pub changes_told : List (ViewKey × Content) → List (ViewKey × Content) → List (ViewKey × Operation)
changes_told before after = map as_row (changes before after)

-- what is kept, what was told, and the stamps
pub record Books : Type 0 where
  pub kept : List (ViewKey × Content)
  pub told : List (ViewKey × Operation)
  pub stamps : List (ViewKey × Stamps)

-- the rows of a source before a change: those that are kept of it, and else those shown of it then
abbrev pub rows_before : Base → List (ViewKey × Content) → Source → List (ViewKey × Content)
rows_before before kept s = if is_kept s then rows_at (is_of s) kept else rows_of before s

-- what is kept once a source was refreshed
abbrev pub kept_after : Base → List (ViewKey × Content) → Source → List (ViewKey × Content)
kept_after after kept s = if is_kept s then with_rows_of s kept (rows_of after s) else kept

-- the stamps then: those at its keys by the two sides of its change
abbrev pub stamps_after : Base → Base → ℕ → Books → Source → List (ViewKey × Stamps)
stamps_after before after now books s =
    with_rows_of s books.stamps (restamped (rows_at (is_of s) books.stamps) (rows_before before books.kept s) (rows_of after s) now)

-- the books once a source was refreshed: its rows are those shown now, what is told gains the changes between the rows
-- before and now, and its stamps are those of that change
abbrev pub refreshed : Base → Base → ℕ → Books → Source → Books
refreshed before after now books s = record {
  kept = kept_after after books.kept s;
  told = with_rows view_cmp books.told (changes_told (rows_before before books.kept s) (rows_of after s));
  stamps = stamps_after before after now books s;
}

-- the books once sources were refreshed one after another
abbrev pub refreshed_each : Base → Base → ℕ → Books → List Source → Books
refreshed_each before after now books ss = fold (refreshed before after now) books ss

-- exactly what is shown has stamps
pub record AreStamped (stamps : List (ViewKey × Stamps)) (base : Base) : Type 0 where
  pub in_order : IsStrictlySortedBy view_cmp (keys_of stamps)
  pub same_keys : (k : ViewKey) → is_some (at view_cmp k stamps) ≡ is_some (at view_cmp k (view base))

-- the books of a base as a change begins
abbrev pub books_before : Base → List (ViewKey × Stamps) → Books
books_before base stamps = record { kept = kept_view base; told = []; stamps = stamps }

-- the books behind a change, by the whole views
abbrev pub books_after : Base → Base → ℕ → List (ViewKey × Stamps) → Books
books_after before after now stamps = record {
  kept = kept_view after;
  told = changes_told (view before) (view after);
  stamps = restamped stamps (view before) (view after) now;
}
