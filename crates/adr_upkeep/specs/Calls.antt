-- What a refresh makes of what tables keep.
use Rattle.std.specs.Prelude.{◌≡◌, ℕ, List, Option, Result, IfOk}
use Rattle.std.specs.Option.{option_to_list}
use Rattle.sqlite.specs.Store.{Ghosts}
use Rattle.sqlite.specs.Held.{Held, state}
use Rattle.sqlite.specs.State.{HasCleanDisk}
use Rattle.adr_state.specs.declared.base.Base.{Base}
use Rattle.adr_state.specs.declared.keys.ViewKey.{ViewKey}
use Rattle.adr_view.specs.declared.view.Content.{Content}
use Rattle.adr_db.specs.Bases.{Beside, kept_beside, HoldsBeside}
use Rattle.adr_kept_view.specs.declared.change.RollupChange.{RollupChange}
use Rattle.adr_kept_view.specs.declared.found.Found.{Found}
use Rattle.adr_kept_view.specs.declared.object.ObjectChange.{ObjectChange}
use Rattle.adr_kept_view.specs.declared.object.OldObject.{OldObject}
use Rattle.adr_kept_view.specs.Changes.{found_of}
use Rattle.adr_kept_view.specs.KeptViews.{KeepsView, Owns}
use Rattle.adr_kept_view.specs.Objects.{StoodIn, as_object}
use Rattle.adr_kept_view.specs.Refreshed.{Part, IsRefreshed, as_rolled_up}
use Rattle.adr_db_portfolio.specs.declared.participant.Sharers.{Sharers}
use Rattle.adr_db_portfolio.specs.KnownSharers.{AreThoseOf}

module _ {S : Type 0} (g : Ghosts S) (old new : Held S) where
  -- after Ok, where those who share were right, it was found in what the tables held; they hold that still, and those are
  -- right still
  abbrev pub FindsEvent : {E : Type 0} → List ℕ → Sharers → Sharers → Result Found E → Type 0
  FindsEvent id before after result =
      HasCleanDisk (state g new)
      → IfOk result (λ found. (beside : Beside) (base : Base) → HoldsBeside beside base (state g old) → AreThoseOf (kept_beside beside base) before
      → (found ≡ found_of beside base id) × AreThoseOf (kept_beside beside base) after × HoldsBeside beside base (state g new))

  -- after Ok, where the tables held a base and kept what was shown, they hold the base, beside what the refresh of that item
  -- leaves behind a change from any base of which it says right what was shown, and its changes are answered
  abbrev pub RefreshesAlone : {I C E : Type 0} → Part I C → I → ℕ → Result (List C) E → Type 0
  RefreshesAlone part item now result =
      HasCleanDisk (state g new)
      → IfOk result (λ changes. (owner : ℕ → ℕ) (rows : List (ViewKey × Content)) (beside : Beside) (before base : Base) → HoldsBeside beside base (state g old) → KeepsView owner rows beside → Owns owner base → part.WasSo before item
      → (later : Beside) × HoldsBeside later base (state g new) × IsRefreshed part owner rows beside before base now item changes later)

  -- the same where those who share were right, and they are right still
  abbrev pub RefreshesSharing : {I C E : Type 0} → Part I C → I → ℕ → Sharers → Sharers → Result (List C) E → Type 0
  RefreshesSharing part item now first last result =
      HasCleanDisk (state g new)
      → IfOk result (λ changes. (owner : ℕ → ℕ) (rows : List (ViewKey × Content)) (beside : Beside) (before base : Base) → HoldsBeside beside base (state g old) → KeepsView owner rows beside → Owns owner base → part.WasSo before item
      → AreThoseOf (kept_beside beside base) first
      → (later : Beside) × HoldsBeside later base (state g new) × AreThoseOf (kept_beside later base) last × IsRefreshed part owner rows beside before base now item changes later)

  -- the same of the roll-up of an event, whoever owns the resources
  abbrev pub RefreshesRollup : {E : Type 0} → List ℕ → ℕ → Result (Option RollupChange) E → Type 0
  RefreshesRollup id now result =
      HasCleanDisk (state g new)
      → IfOk result (λ change. (owner : ℕ → ℕ) (rows : List (ViewKey × Content)) (beside : Beside) (before base : Base) → HoldsBeside beside base (state g old) → KeepsView owner rows beside
      → (later : Beside) × HoldsBeside later base (state g new) × IsRefreshed as_rolled_up owner rows beside before base now id (option_to_list change) later)

  abbrev pub RefreshesRollupSharing : {E : Type 0} → List ℕ → ℕ → Sharers → Sharers → Result (Option RollupChange) E → Type 0
  RefreshesRollupSharing id now first last result =
      HasCleanDisk (state g new)
      → IfOk result (λ change. (owner : ℕ → ℕ) (rows : List (ViewKey × Content)) (beside : Beside) (before base : Base) → HoldsBeside beside base (state g old) → KeepsView owner rows beside
      → AreThoseOf (kept_beside beside base) first
      → (later : Beside) × HoldsBeside later base (state g new) × AreThoseOf (kept_beside later base) last × IsRefreshed as_rolled_up owner rows beside before base now id (option_to_list change) later)

  -- the same of a program or a report, where what stood there is handed in
  abbrev pub RefreshesObject : {E : Type 0} → OldObject → ℕ → Result (Option ObjectChange) E → Type 0
  RefreshesObject it now result =
      HasCleanDisk (state g new)
      → IfOk result (λ change. (owner : ℕ → ℕ) (rows : List (ViewKey × Content)) (beside : Beside) (before base : Base) → HoldsBeside beside base (state g old) → KeepsView owner rows beside → StoodIn before it
      → (later : Beside) × HoldsBeside later base (state g new) × IsRefreshed as_object owner rows beside before base now it (option_to_list change) later)
