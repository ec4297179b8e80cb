-- Laws of the refresh.
use Rattle.std.specs.Prelude.{◌≡◌, ℕ, true, List, [], IfOk}
use Rattle.std.specs.List.{Contains, flat_map}
use Rattle.std.specs.List.Sorted.{IsStrictlySortedBy}
use Rattle.adr_objects.specs.declared.shown.Stamps.{Stamps}
use Rattle.adr_state.specs.declared.base.Base.{Base}
use Rattle.adr_state.specs.declared.keys.ShareKey.{ShareKey}
use Rattle.adr_state.specs.declared.keys.ViewKey.{ViewKey}
use Rattle.adr_state.specs.declared.limits.Limits.{Limits}
use Rattle.adr_state.specs.BaseChanges.{BaseChange, ChangePortfolio, changed}
use Rattle.adr_state.specs.Frozen.{is_frozen}
use Rattle.adr_state.specs.Keys.{view_cmp, at}
use Rattle.adr_view.specs.declared.changes.Change.{Change}
use Rattle.adr_view.specs.Changes.{changes, restamped}
use Rattle.adr_view.specs.Frozen.{freeze}
use Rattle.adr_view.specs.Laws.{StandsInOrder}
use Rattle.adr_view.specs.Views.{view}
use Rattle.adr_refresh.specs.Sources.{Source, source_cmp, source_of, rows_of}
use Rattle.adr_refresh.specs.Touched.{events_by_share, touched}
use Rattle.adr_refresh.specs.Refresh.{refreshed_each, AreStamped, books_before, books_after}

-- where rows stand in order, what the view has at a key is what is shown there of its source
abbrev pub ViewIsOfSources : Type 0
ViewIsOfSources = (base : Base) → StandsInOrder base → (k : ViewKey) → at view_cmp k (view base) ≡ at view_cmp k (rows_of base (source_of k))

-- what is shown of a source that a change does not touch is shown as before
abbrev pub OthersAreShownAsBefore : Type 0
OthersAreShownAsBefore = (c : BaseChange) (base : Base) (s : Source) → (Contains (touched c base) s → ⊥) → rows_of base s ≡ rows_of (changed c base) s

-- among sources is each that is not shown as before
abbrev pub HasAllThatDiffer : Base → Base → List Source → Type 0
HasAllThatDiffer before after ss = (s : Source) → (Contains ss s → ⊥) → rows_of before s ≡ rows_of after s

-- where what is shown is kept and stamped, the books behind the refresh of such sources are those of the whole views
abbrev pub RefreshedIsAsComputed : Type 0
RefreshedIsAsComputed = (before after : Base) (now : ℕ) (stamps : List (ViewKey × Stamps)) (ss : List Source) → StandsInOrder before → StandsInOrder after
    → HasAllThatDiffer before after ss → AreStamped stamps before
    → refreshed_each before after now (books_before before stamps) ss ≡ books_after before after now stamps

-- so they are behind the refresh of all that a change touches
abbrev pub TouchedIsEnough : Type 0
TouchedIsEnough = (c : BaseChange) (base : Base) (now : ℕ) (stamps : List (ViewKey × Stamps)) (ss : List Source) → StandsInOrder base → StandsInOrder (changed c base)
    → ((s : Source) → Contains (touched c base) s → Contains ss s) → AreStamped stamps base
    → refreshed_each base (changed c base) now (books_before base stamps) ss ≡ books_after base (changed c base) now stamps

-- the freezing of an event touches nothing
abbrev pub FreezingTouchesNothing : Type 0
FreezingTouchesNothing = (limits : Limits) (id : List ℕ) (base : Base) → IfOk (freeze limits id base.mirror base.portfolio) (λ d. touched (ChangePortfolio d.1) base ≡ [])

-- a share that is put or goes touches no event that is frozen
abbrev pub SharesTouchNoFrozen : Type 0
SharesTouchNoFrozen = (key : ShareKey) (base : Base) (id : List ℕ) → is_frozen base.portfolio id ≡ true → Contains (events_by_share key.program base) id → ⊥

-- exactly what is shown behind a change has stamps then
abbrev pub StampsAreGivenBack : Type 0
StampsAreGivenBack = (before after : Base) (now : ℕ) (stamps : List (ViewKey × Stamps)) → AreStamped (restamped stamps (view before) (view after) now) after

-- the changes of sources, one source after another
abbrev pub changes_in_turn : Base → Base → List Source → List Change
changes_in_turn before after ss = flat_map (λ s. changes (rows_of before s) (rows_of after s)) ss

-- sources in their order, among which is each that is not shown as before, have in turn the changes between the whole views
abbrev pub ChangesStandInTurn : Type 0
ChangesStandInTurn = (before after : Base) (ss : List Source) → StandsInOrder before → StandsInOrder after → IsStrictlySortedBy source_cmp ss → HasAllThatDiffer before after ss
    → changes (view before) (view after) ≡ changes_in_turn before after ss
