-- Items visited one after another: upstream events, their roll-ups, programs or reports; and where the visit is.
use Rattle.std.specs.Prelude.{◌≡◌, ◌+◌, ℕ, List, [], ◌∷◌, ◌++◌, length, Result, OnOk, All}
use Rattle.std.specs.List.{flat_map}
use Rattle.sqlite.specs.Store.{Ghosts}
use Rattle.sqlite.specs.Held.{Held, state}
use Rattle.sqlite.specs.State.{State, HasCleanDisk}
use Rattle.adr_subscription.specs.declared.kept_sub.Sub.{Sub}
use Rattle.adr_delivery.specs.declared.entry.Entry.{Entry}
use Rattle.adr_state.specs.declared.base.Base.{Base}
use Rattle.adr_state.specs.declared.keys.ViewKey.{ViewKey}
use Rattle.adr_state.specs.declared.limits.Limits.{Limits}
use Rattle.adr_view.specs.declared.view.Content.{Content}
use Rattle.adr_db.specs.declared.meta.Meta.{Meta}
use Rattle.adr_db.specs.Kept.{Kept}
use Rattle.adr_db.specs.Bases.{Beside, kept_beside}
use Rattle.adr_kept_view.specs.KeptViews.{KeepsView, Owns}
use Rattle.adr_kept_view.specs.Refreshed.{books_behind, Part, IsRefreshed}
use Rattle.adr_db_portfolio.specs.KnownSharers.{AreThoseOf}
use Rattle.adr_room.specs.Rooms.{AreDrawn, HaveCome, AreSoFar}
use Rattle.adr_visit.specs.declared.visit.Visit.{Visit}
use Rattle.adr_listeners.specs.Listeners.{AreThose}

-- a visit that begins: no entry came, what was read is right, and there was no change
pub record Begins (limits : Limits) (first : Meta) (kept : Kept) (visit : Visit) : Type 0 where
  pub come : HaveCome limits first kept [] visit.room
  pub sharing : AreThoseOf kept visit.sharers
  pub listening : AreThose kept visit.listeners
  pub none : visit.many ≡ 0

-- where a visit is: these entries came so far, behind what the tables keep beside the base, which are these rows of a view
-- but for the entries; and what was read is right
pub record IsAt (limits : Limits) (first : Meta) (owner : ℕ → ℕ) (base : Base) (rows : List (ViewKey × Content)) (beside : Beside) (es : List Entry) (visit : Visit) (numbers : Meta) (s : State) : Type 0 where
  pub come : AreSoFar limits first (kept_beside beside base) es visit.room numbers s
  pub keeps : KeepsView owner rows beside
  pub owns : Owns owner base
  pub sharing : AreThoseOf (kept_beside beside base) visit.sharers
  pub listening : AreThose (kept_beside beside base) visit.listeners
  pub waits : first.pending ≡ length beside.entries
  pub drawn : AreDrawn first (kept_beside beside base)

module _ {I C : Type 0} (part : Part I C) (told : I → C → List Entry) (owner : ℕ → ℕ) (before base : Base) (now : ℕ) where
  -- from what the tables keep of a view to what they keep once these items were refreshed, one after another, behind a change
  -- from one base to another: each leaves what its refresh leaves, the entries are those by which their changes are told, in
  -- turn, and there are so many changes
  abbrev pub IsTrail : List (ViewKey × Content) → Beside → List I → List (ViewKey × Content) → Beside → List Entry → ℕ → Type 0
  IsTrail rows beside [] last later es many = (rows ≡ last) × (beside ≡ later) × (es ≡ []) × (many ≡ 0)
  IsTrail rows beside (i ∷ is) last later es many =
      (changes : List C) × (middle : Beside) × (rest : List Entry) × (others : ℕ) × IsRefreshed part owner rows beside before base now i changes middle × (es ≡ flat_map (told i) changes ++ rest) × (many ≡ length changes + others)
      × IsTrail (books_behind rows beside before base now (part.source i)).kept middle is last later rest others

module _ {S : Type 0} (g : Ghosts S) (old new : Held S) where
  -- after Ok these changes of an item are told to the subscriptions of the base, and counted, wherever the visit was
  abbrev pub TellsAll : {I C T E : Type 0} → (List (ℕ × Sub) → I → C → List Entry) → Limits → I → List C → Visit → Visit → Meta → Meta → Result T E → Type 0
  TellsAll told limits item changes visit later numbers then result =
      HasCleanDisk (state g new)
      → OnOk result ((first : Meta) (owner : ℕ → ℕ) (base : Base) (rows : List (ViewKey × Content)) (beside : Beside) (es : List Entry) → IsAt limits first owner base rows beside es visit numbers (state g old)
      → (later.many ≡ visit.many + length changes) × IsAt limits first owner base rows beside (es ++ flat_map (told base.portfolio.subs item) changes) later then (state g new))

  -- after Ok the item is refreshed, and its changes are told to the subscriptions of the base, and counted, behind a change
  -- from any base of which it says right what was shown
  abbrev pub VisitsOne : {I C T E : Type 0} → Part I C → (List (ℕ × Sub) → I → C → List Entry) → Limits → I → ℕ → Visit → Visit → Meta → Meta → Result T E → Type 0
  VisitsOne part told limits item now visit later numbers then result =
      HasCleanDisk (state g new)
      → OnOk result ((first : Meta) (owner : ℕ → ℕ) (before base : Base) (rows : List (ViewKey × Content)) (beside : Beside) (es : List Entry) → part.WasSo before item → IsAt limits first owner base rows beside es visit numbers (state g old)
      → (changes : List _) × (middle : Beside) × IsRefreshed part owner rows beside before base now item changes middle × (later.many ≡ visit.many + length changes)
      × IsAt limits first owner base (books_behind rows beside before base now (part.source item)).kept middle (es ++ flat_map (told base.portfolio.subs item) changes) later then (state g new))

  -- so is each of them, one after another
  abbrev pub VisitsEach : {I C T E : Type 0} → Part I C → (List (ℕ × Sub) → I → C → List Entry) → Limits → List I → ℕ → Visit → Visit → Meta → Meta → Result T E → Type 0
  VisitsEach part told limits items now visit later numbers then result =
      HasCleanDisk (state g new)
      → OnOk result ((first : Meta) (owner : ℕ → ℕ) (before base : Base) (rows : List (ViewKey × Content)) (beside : Beside) (es : List Entry) → All (part.WasSo before) items → IsAt limits first owner base rows beside es visit numbers (state g old)
      → (last : List (ViewKey × Content)) × (end : Beside) × (further : List Entry) × (many : ℕ) × IsTrail part (told base.portfolio.subs) owner before base now rows beside items last end further many × (later.many ≡ visit.many + many)
      × IsAt limits first owner base last end (es ++ further) later then (state g new))
