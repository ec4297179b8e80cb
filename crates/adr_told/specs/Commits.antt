-- What all visits of a command tell and leave, one behind the other.
use Rattle.std.specs.Prelude.{◌≡◌, ◌+◌, ℕ, List, ◌++◌, length, All}
use Rattle.std.specs.List.Sorted.{IsStrictlySortedBy}
use Rattle.std.specs.declared.cmp.Ordering.TheVariants.{Less}
use Rattle.adr_objects.specs.declared.shown.Stamps.{Stamps}
use Rattle.adr_subscription.specs.declared.kept_sub.Sub.{Sub}
use Rattle.adr_delivery.specs.declared.entry.Entry.{Entry}
use Rattle.adr_state.specs.declared.base.Base.{Base}
use Rattle.adr_state.specs.declared.keys.ViewKey.{ViewKey}
use Rattle.adr_view.specs.declared.view.Content.{Content}
use Rattle.adr_view.specs.Changes.{changes, restamped}
use Rattle.adr_view.specs.Laws.{StandsInOrder}
use Rattle.adr_view.specs.Views.{view}
use Rattle.adr_notices.specs.Made.{entries_made}
use Rattle.adr_refresh.specs.Laws.{HasAllThatDiffer}
use Rattle.adr_refresh.specs.Refresh.{kept_view}
use Rattle.adr_refresh.specs.Sources.{Source, source_cmp}
use Rattle.adr_db.specs.Bases.{Beside}
use Rattle.adr_kept_base.specs.Bases.{KeepsShown, owner_between, VensStay}
use Rattle.adr_told.specs.Laws.{side_before, side_after, IsUntouched, AreToldAsWhole}

-- two visits, of which the second begins with what the first one left, are one visit of all their sources
abbrev pub VisitsJoin : Type 0
VisitsJoin = (client : List ℕ) (subs : List (ℕ × Sub)) (owner : ℕ → ℕ) (before : Base) (stamps : List (ViewKey × Stamps)) (after : Base) (now : ℕ) (ss ts : List Source) (rows middle last : List (ViewKey × Content)) (beside between end : Beside) (es fs : List Entry) (many others : ℕ)
    → AreToldAsWhole client subs owner before stamps after now ss rows beside middle between es many → AreToldAsWhole client subs owner before stamps after now ts middle between last end fs others
    → AreToldAsWhole client subs owner before stamps after now (ss ++ ts) rows beside last end (es ++ fs) (many + others)

-- a source that stands behind all that were visited, and was not yet touched, is not touched by the visit
abbrev pub OthersStayUntouched : Type 0
OthersStayUntouched = (client : List ℕ) (subs : List (ℕ × Sub)) (owner : ℕ → ℕ) (before : Base) (stamps : List (ViewKey × Stamps)) (after : Base) (now : ℕ) (ss : List Source) (t : Source) (rows last : List (ViewKey × Content)) (beside end : Beside) (es : List Entry) (many : ℕ)
    → StandsInOrder after → All (λ s. source_cmp s t ≡ Less) ss → IsUntouched before stamps rows beside t
    → AreToldAsWhole client subs owner before stamps after now ss rows beside last end es many → IsUntouched before stamps last end t

-- at first none is touched
abbrev pub NoneIsTouched : Type 0
NoneIsTouched = (before : Base) (beside : Beside) (s : Source) → StandsInOrder before → IsUntouched before beside.stamps (kept_view before) beside s

-- all is told and counted as the machine does, the stamps are those that it gives, and the tables keep what is shown then
pub record IsAsComputed (client : List ℕ) (subs : List (ℕ × Sub)) (before after : Base) (now : ℕ) (beside end : Beside) (es : List Entry) (many : ℕ) : Type 0 where
  pub counted : many ≡ length (changes (view before) (view after))
  pub entries : es ≡ entries_made client subs (side_before before beside.stamps) (side_after before beside.stamps after now) (changes (view before) (view after))
  pub stamps : end.stamps ≡ restamped beside.stamps (view before) (view after) now
  pub alone : end ≡ record beside { shown = end.shown; rollups = end.rollups; stamps = end.stamps }
  pub keeps : KeepsShown end after

-- so it is of a visit of sources in their order, among which is each that is not shown as before, where tables kept what was
-- shown of the base, and each resource that stays has its ven
abbrev pub VisitedIsAsComputed : Type 0
VisitedIsAsComputed = (client : List ℕ) (subs : List (ℕ × Sub)) (before after : Base) (now : ℕ) (ss : List Source) (last : List (ViewKey × Content)) (beside end : Beside) (es : List Entry) (many : ℕ)
    → StandsInOrder before → StandsInOrder after → VensStay before.portfolio after.portfolio → IsStrictlySortedBy source_cmp ss → HasAllThatDiffer before after ss
    → KeepsShown beside before → AreToldAsWhole client subs (owner_between before.portfolio after.portfolio) before beside.stamps after now ss (kept_view before) beside last end es many
    → IsAsComputed client subs before after now beside end es many
