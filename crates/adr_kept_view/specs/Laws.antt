-- Laws of the refresh of what tables keep.
use Rattle.std.specs.Prelude.{◌≡◌, ℕ, List, Option, Ok, IfSome, All}
use Rattle.std.specs.Option.{option_to_list}
use Rattle.std.specs.Ordering.{nat_cmp}
use Rattle.adr_state.specs.declared.base.Base.{Base}
use Rattle.adr_state.specs.declared.keys.ViewKey.{ViewKey}
use Rattle.adr_state.specs.declared.keys.ViewKey.TheVariants as key
use Rattle.adr_state.specs.Keys.{id_cmp, view_cmp, at}
use Rattle.adr_view.specs.declared.view.Content.{Content}
use Rattle.adr_view.specs.Laws.{StandsInOrder}
use Rattle.adr_view.specs.Rollups.{rollup_at}
use Rattle.adr_shown.specs.ShownTexts.{shown_text}
use Rattle.adr_shown.specs.ReadShown.{shown_of}
use Rattle.adr_shown.specs.RollupTexts.{kept_rollup_text}
use Rattle.adr_shown.specs.ReadRollups.{kept_rollup_of}
use Rattle.adr_db.specs.Bases.{Beside}
use Rattle.adr_kept_view.specs.KeptViews.{KeepsView, Owns}
use Rattle.adr_kept_view.specs.declared.found.Found.{Found}
use Rattle.adr_kept_view.specs.declared.object.ObjectChange.{ObjectChange}
use Rattle.adr_kept_view.specs.declared.object.OldObject.{OldObject}
use Rattle.adr_kept_view.specs.Changes.{found_of, numbers_of, change_found, changes_found, shown_with_each, stamps_with_each}
use Rattle.adr_kept_view.specs.Rollups.{change_of, rollups_with, stamps_with}
use Rattle.adr_kept_view.specs.Objects.{view_key, shown_at, StoodIn, as_object, TellsAt, IsChangeOf, with_object}
use Rattle.adr_kept_view.specs.Refreshed.{IsRefreshed, as_shown, as_rolled_up}

-- the text of what is shown now, of the resource of a number, reads back
abbrev pub ReadsFound : Found → ℕ → Type 0
ReadsFound found n = IfSome (at nat_cmp n found.shown) (λ e. shown_of (shown_text e) ≡ Ok e)

-- what stands beside a base, with the changes of what was found of an event
abbrev pub with_found : Beside → Base → ℕ → List ℕ → Found → Beside
with_found beside base now id found = record beside {
  shown = shown_with_each id (change_found base.portfolio now found) beside.shown (numbers_of found);
  stamps = stamps_with_each id (change_found base.portfolio now found) beside.stamps (numbers_of found);
}

-- where tables keep what is shown, and the texts of what is shown now of an event read back, the changes of what is
-- found of it, written one after another, refresh the event, whatever base was before
abbrev pub EventIsRefreshed : Type 0
EventIsRefreshed = (owner : ℕ → ℕ) (rows : List (ViewKey × Content)) (beside : Beside) (before base : Base) (now : ℕ) (id : List ℕ) → KeepsView owner rows beside → Owns owner base → StandsInOrder base
    → All (ReadsFound (found_of beside base id)) (numbers_of (found_of beside base id))
    → IsRefreshed as_shown owner rows beside before base now id (changes_found base.portfolio now (found_of beside base id)) (with_found beside base now id (found_of beside base id))

-- what stands beside a base, with the roll-up of an event as it is now
abbrev pub with_rollup : Beside → Base → ℕ → List ℕ → Beside
with_rollup beside base now id = record beside {
  rollups = rollups_with id (at id_cmp id beside.rollups) (rollup_at base.mirror base.portfolio id) beside.rollups;
  stamps = stamps_with id now (at id_cmp id beside.rollups) (at view_cmp (key.Rollup id) beside.stamps) (rollup_at base.mirror base.portfolio id) beside.stamps;
}

-- so where the text of the roll-up of an event reads back, what is written of it refreshes the roll-up
abbrev pub RollupIsRefreshed : Type 0
RollupIsRefreshed = (owner : ℕ → ℕ) (rows : List (ViewKey × Content)) (beside : Beside) (before base : Base) (now : ℕ) (id : List ℕ) → KeepsView owner rows beside → StandsInOrder base
    → IfSome (rollup_at base.mirror base.portfolio id) (λ r. kept_rollup_of (kept_rollup_text id r) ≡ Ok (id, r))
    → IsRefreshed as_rolled_up owner rows beside before base now id (option_to_list (change_of id (at id_cmp id beside.rollups) (rollup_at base.mirror base.portfolio id))) (with_rollup beside base now id)

-- and where what stood at the key of a program or of a report was so before, what is written there refreshes it
abbrev pub ObjectIsRefreshed : Type 0
ObjectIsRefreshed = (owner : ℕ → ℕ) (rows : List (ViewKey × Content)) (beside : Beside) (before base : Base) (now : ℕ) (old : OldObject) (change : Option ObjectChange) → KeepsView owner rows beside → StandsInOrder base → StoodIn before old
    → TellsAt old (shown_at base (view_key old.key)) change → IfSome change (IsChangeOf base.portfolio now (at view_cmp (view_key old.key) beside.stamps) old (shown_at base (view_key old.key)))
    → IsRefreshed as_object owner rows beside before base now old (option_to_list change) (with_object beside base now old)
