-- Laws of what is told as tables are refreshed, source by source.
use Rattle.std.specs.Prelude.{◌≡◌, ℕ, true, List, [], map, length, All}
use Rattle.std.specs.List.{flat_map}
use Rattle.std.specs.List.Sorted.{IsStrictlySortedBy}
use Rattle.adr_objects.specs.declared.shown.Stamps.{Stamps}
use Rattle.adr_subscription.specs.declared.kept_sub.Sub.{Sub}
use Rattle.adr_state.specs.declared.base.Base.{Base}
use Rattle.adr_state.specs.declared.keys.ViewKey.{ViewKey}
use Rattle.adr_state.specs.Keys.{view_cmp, at}
use Rattle.adr_view.specs.declared.view.Content.{Content}
use Rattle.adr_view.specs.Changes.{changes, restamped}
use Rattle.adr_view.specs.Laws.{StandsInOrder}
use Rattle.adr_view.specs.Views.{view}
use Rattle.adr_delivery.specs.declared.entry.Entry.{Entry}
use Rattle.adr_notices.specs.Made.{entries_made}
use Rattle.adr_notices.specs.Shown.{Side}
use Rattle.adr_refresh.specs.Laws.{HasAllThatDiffer, changes_in_turn}
use Rattle.adr_refresh.specs.Refresh.{Books, is_kept, refreshed_each}
use Rattle.adr_refresh.specs.Sources.{Source, RolledUp, source_cmp, is_of, rows_of}
use Rattle.adr_refresh.specs.Touched.{upstream_event}
use Rattle.adr_db.specs.Bases.{Beside}
use Rattle.adr_kept_view.specs.declared.change.RollupChange.{RollupChange}
use Rattle.adr_kept_view.specs.declared.change.ShownChange.{ShownChange}
use Rattle.adr_kept_view.specs.declared.object.ObjectChange.{ObjectChange}
use Rattle.adr_kept_view.specs.declared.object.OldObject.{OldObject}
use Rattle.adr_kept_view.specs.KeptViews.{KeepsView, Owns}
use Rattle.adr_kept_view.specs.Objects.{StoodIn, as_object}
use Rattle.adr_kept_view.specs.Refreshed.{IsRefreshed, as_shown, as_rolled_up}
use Rattle.adr_visit.specs.Visits.{IsTrail}
use Rattle.adr_told.specs.Told.{shown_entries, rollup_entries, object_entries}

-- ---- what the machine tells of a source

-- what is shown before a command that leads from one base to another, and what is shown after it
abbrev pub side_before : Base → List (ViewKey × Stamps) → Side
side_before before stamps = record { base = before; view = view before; stamps = stamps }

abbrev pub side_after : Base → List (ViewKey × Stamps) → Base → ℕ → Side
side_after before stamps after now = record { base = after; view = view after; stamps = restamped stamps (view before) (view after) now }

-- the entries of the changes of one source
abbrev pub entries_of_source : List ℕ → List (ℕ × Sub) → Base → List (ViewKey × Stamps) → Base → ℕ → Source → List Entry
entries_of_source client subs before stamps after now s = entries_made client subs (side_before before stamps) (side_after before stamps after now) (changes (rows_of before s) (rows_of after s))

-- as many changes are told as there are of the source, and by the entries of these
pub record IsToldAsWhole (client : List ℕ) (subs : List (ℕ × Sub)) (before : Base) (stamps : List (ViewKey × Stamps)) (after : Base) (now : ℕ) (s : Source) (many : ℕ) (es : List Entry) : Type 0 where
  pub counted : many ≡ length (changes (rows_of before s) (rows_of after s))
  pub entries : es ≡ entries_of_source client subs before stamps after now s

-- where rows stand in order, the entries of all changes are those of sources in their order, among which is each that is
-- not shown as before
abbrev pub WholeIsToldInTurn : Type 0
WholeIsToldInTurn = (client : List ℕ) (subs : List (ℕ × Sub)) (before : Base) (stamps : List (ViewKey × Stamps)) (after : Base) (now : ℕ) (ss : List Source) → StandsInOrder before → StandsInOrder after
    → IsStrictlySortedBy source_cmp ss → HasAllThatDiffer before after ss
    → entries_made client subs (side_before before stamps) (side_after before stamps after now) (changes (view before) (view after)) ≡ flat_map (entries_of_source client subs before stamps after now) ss

-- ---- what is told of a refresh

-- what tables keep of a view, where they keep rows of a source, and their stamps have at its keys what was shown and
-- stamped before the command
pub record IsUntouched (before : Base) (stamps : List (ViewKey × Stamps)) (rows : List (ViewKey × Content)) (beside : Beside) (s : Source) : Type 0 where
  pub kept : is_kept s ≡ true → (k : ViewKey) → is_of s k ≡ true → at view_cmp k rows ≡ at view_cmp k (rows_of before s)
  pub stamped : (k : ViewKey) → is_of s k ≡ true → at view_cmp k beside.stamps ≡ at view_cmp k stamps

-- where an event is refreshed that was not yet touched, under owners of the resources that are there before or after, what
-- is answered is told as that source is
abbrev pub EventIsToldAsWhole : Type 0
EventIsToldAsWhole = (client : List ℕ) (subs : List (ℕ × Sub)) (owner : ℕ → ℕ) (before : Base) (stamps : List (ViewKey × Stamps)) (after : Base) (now : ℕ) (id : List ℕ) (rows : List (ViewKey × Content)) (beside later : Beside) (cs : List ShownChange)
    → StandsInOrder before → StandsInOrder after → Owns owner before → Owns owner after
    → KeepsView owner rows beside → IsUntouched before stamps rows beside (upstream_event id) → IsRefreshed as_shown owner rows beside before after now id cs later
    → IsToldAsWhole client subs before stamps after now (upstream_event id) (length cs) (flat_map (shown_entries subs id) cs)

-- so is a roll-up
abbrev pub RollupIsToldAsWhole : Type 0
RollupIsToldAsWhole = (client : List ℕ) (subs : List (ℕ × Sub)) (owner : ℕ → ℕ) (before : Base) (stamps : List (ViewKey × Stamps)) (after : Base) (now : ℕ) (id : List ℕ) (rows : List (ViewKey × Content)) (beside later : Beside) (cs : List RollupChange)
    → StandsInOrder before → StandsInOrder after
    → KeepsView owner rows beside → IsUntouched before stamps rows beside (RolledUp id) → IsRefreshed as_rolled_up owner rows beside before after now id cs later
    → IsToldAsWhole client subs before stamps after now (RolledUp id) (length cs) (flat_map (rollup_entries client id) cs)

-- so is a program or a report, where what stood there was so before
abbrev pub ObjectIsToldAsWhole : Type 0
ObjectIsToldAsWhole = (client : List ℕ) (subs : List (ℕ × Sub)) (owner : ℕ → ℕ) (before : Base) (stamps : List (ViewKey × Stamps)) (after : Base) (now : ℕ) (old : OldObject) (rows : List (ViewKey × Content)) (beside later : Beside) (cs : List ObjectChange)
    → StandsInOrder before → StandsInOrder after
    → KeepsView owner rows beside → StoodIn before old → IsUntouched before stamps rows beside (as_object.source old) → IsRefreshed as_object owner rows beside before after now old cs later
    → IsToldAsWhole client subs before stamps after now (as_object.source old) (length cs) (flat_map (object_entries subs old) cs)

-- ---- what is told of a visit

-- the books once sources were refreshed from what tables keep of a view and its stamps, with nothing told yet
abbrev pub books_then : Base → Base → ℕ → List (ViewKey × Content) → Beside → List Source → Books
books_then before after now rows beside ss = refreshed_each before after now (record { kept = rows; told = []; stamps = beside.stamps }) ss

-- a visit of sources: its entries are those of the sources, one after another, and it counts their changes; the tables keep
-- then what the refresh of the sources leaves, and all else beside the base is as it was
pub record AreToldAsWhole (client : List ℕ) (subs : List (ℕ × Sub)) (owner : ℕ → ℕ) (before : Base) (stamps : List (ViewKey × Stamps)) (after : Base) (now : ℕ) (ss : List Source) (rows : List (ViewKey × Content)) (beside : Beside) (last : List (ViewKey × Content)) (end : Beside) (es : List Entry) (many : ℕ) : Type 0 where
  pub counted : many ≡ length (changes_in_turn before after ss)
  pub entries : es ≡ flat_map (entries_of_source client subs before stamps after now) ss
  pub kept : last ≡ (books_then before after now rows beside ss).kept
  pub stamped : end.stamps ≡ (books_then before after now rows beside ss).stamps
  pub alone : end ≡ record beside { shown = end.shown; rollups = end.rollups; stamps = end.stamps }
  pub keeps : KeepsView owner last end

-- so is a visit of events that were not yet touched, each once, in the order of their ids
abbrev pub EventsAreToldAsWhole : Type 0
EventsAreToldAsWhole = (client : List ℕ) (subs : List (ℕ × Sub)) (owner : ℕ → ℕ) (before : Base) (stamps : List (ViewKey × Stamps)) (after : Base) (now : ℕ) (ids : List (List ℕ)) (rows : List (ViewKey × Content)) (beside : Beside) (last : List (ViewKey × Content)) (end : Beside) (es : List Entry) (many : ℕ)
    → StandsInOrder before → StandsInOrder after → Owns owner before → Owns owner after
    → IsStrictlySortedBy source_cmp (map upstream_event ids) → KeepsView owner rows beside → All (IsUntouched before stamps rows beside) (map upstream_event ids)
    → IsTrail as_shown (shown_entries subs) owner before after now rows beside ids last end es many
    → AreToldAsWhole client subs owner before stamps after now (map upstream_event ids) rows beside last end es many

-- and so is one of roll-ups
abbrev pub RollupsAreToldAsWhole : Type 0
RollupsAreToldAsWhole = (client : List ℕ) (subs : List (ℕ × Sub)) (owner : ℕ → ℕ) (before : Base) (stamps : List (ViewKey × Stamps)) (after : Base) (now : ℕ) (ids : List (List ℕ)) (rows : List (ViewKey × Content)) (beside : Beside) (last : List (ViewKey × Content)) (end : Beside) (es : List Entry) (many : ℕ)
    → StandsInOrder before → StandsInOrder after
    → IsStrictlySortedBy source_cmp (map RolledUp ids) → KeepsView owner rows beside → All (IsUntouched before stamps rows beside) (map RolledUp ids)
    → IsTrail as_rolled_up (rollup_entries client) owner before after now rows beside ids last end es many
    → AreToldAsWhole client subs owner before stamps after now (map RolledUp ids) rows beside last end es many

-- and so is one of programs and reports
abbrev pub ObjectsAreToldAsWhole : Type 0
ObjectsAreToldAsWhole = (client : List ℕ) (subs : List (ℕ × Sub)) (owner : ℕ → ℕ) (before : Base) (stamps : List (ViewKey × Stamps)) (after : Base) (now : ℕ) (olds : List OldObject) (rows : List (ViewKey × Content)) (beside : Beside) (last : List (ViewKey × Content)) (end : Beside) (es : List Entry) (many : ℕ)
    → StandsInOrder before → StandsInOrder after
    → IsStrictlySortedBy source_cmp (map as_object.source olds) → KeepsView owner rows beside → All (StoodIn before) olds → All (IsUntouched before stamps rows beside) (map as_object.source olds)
    → IsTrail as_object (object_entries subs) owner before after now rows beside olds last end es many
    → AreToldAsWhole client subs owner before stamps after now (map as_object.source olds) rows beside last end es many
