-- What a call makes of the base that the tables hold, or of its portfolio alone.
use Rattle.std.specs.Prelude.{◌≡◌, Result, Ok, IfOk, IfErr, OnOk}
use Rattle.sqlite.specs.Store.{Ghosts}
use Rattle.sqlite.specs.Held.{Held, state}
use Rattle.sqlite.specs.State.{State, HasCleanDisk}
use Rattle.adr_text.specs.declared.refusal.Refusal.{Refusal}
use Rattle.adr_text.specs.Refusals.{IsRefusalOf}
use Rattle.adr_state.specs.declared.base.Base.{Base}
use Rattle.adr_state.specs.declared.portfolio.Portfolio.{Portfolio}
use Rattle.adr_state.specs.BaseChanges.{BaseChange, ChangePortfolio, changed}
use Rattle.adr_state.specs.Portfolios.{PortfolioChange}
use Rattle.adr_db.specs.declared.meta.Meta.{Meta}
use Rattle.adr_db.specs.Kept.{Kept, Keeps}
use Rattle.adr_db.specs.Bases.{Beside, with_base, HoldsBeside}

-- a change of the portfolio is made of a base: the tables hold the base after it, and the numbers after it are those before with those of that
pub record IsCounted (change : PortfolioChange) (beside : Beside) (base : Base) (before after : Meta) (s : State) : Type 0 where
  pub holds : HoldsBeside beside (changed (ChangePortfolio change) base) s
  pub counted : after ≡ with_base before (changed (ChangePortfolio change) base)

-- what is decided of a base is an answer and a change of its portfolio, which is made of it
pub record IsCarriedOut {A : Type 0} (decide : Base → Result (A × PortfolioChange) Refusal) (beside : Beside) (base : Base) (before after : Meta) (x : A) (s : State) : Type 0 where
  pub change : PortfolioChange
  pub decided : decide base ≡ Ok (x, change)
  pub left : IsCounted change beside base before after s

-- what is decided of a base is a change; the tables hold what it makes of the base, and the numbers after it are those before with those of
-- that; the answer is right for the base before and after
pub record IsMade {T : Type 0} (decide : Base → Result BaseChange Refusal) (IsRight : Base → Base → T → Type 0) (beside : Beside) (base : Base) (before after : Meta) (x : T) (s : State) : Type 0 where
  pub change : BaseChange
  pub decided : decide base ≡ Ok change
  pub holds : HoldsBeside beside (changed change base) s
  pub counted : after ≡ with_base before (changed change base)
  pub right : IsRight base (changed change base) x

module _ {S : Type 0} (g : Ghosts S) (old new : Held S) where
  -- after Ok, a change is made of the portfolio of the base that the tables held beside any numbers and stamps, where this was so of the portfolio
  -- and the caller's numbers were those of the base; these are then those of the base after
  abbrev pub Counts : {T E : Type 0} → PortfolioChange → (Portfolio → Type 0) → Meta → Meta → Result T E → Type 0
  Counts change IsSo before after result =
      HasCleanDisk (state g new)
      → OnOk result ((beside : Beside) (base : Base) → HoldsBeside beside base (state g old) → before ≡ with_base before base → IsSo base.portfolio → IsCounted change beside base before after (state g new))

  -- after Ok, what is decided of the base that the tables held beside any numbers and stamps is carried out on its portfolio, and answered, where the
  -- caller's numbers were those of the base; these are then those of the base after
  abbrev pub Carries : {A E : Type 0} → (Base → Result (A × PortfolioChange) Refusal) → Meta → Meta → Result A E → Type 0
  Carries decide before after result =
      HasCleanDisk (state g new) → IfOk result (λ x. (beside : Beside) (base : Base) → HoldsBeside beside base (state g old) → before ≡ with_base before base → IsCarriedOut decide beside base before after x (state g new))

  -- after Ok, what is decided of the base that the tables held beside any numbers and stamps is made of it, where the caller's numbers were
  -- those of the base; these are then those of the base after
  abbrev pub Makes : {T E : Type 0} → (Base → Result BaseChange Refusal) → Meta → Meta → (Base → Base → T → Type 0) → Result T E → Type 0
  Makes decide before after IsRight result =
      HasCleanDisk (state g new)
      → IfOk result (λ x. (beside : Beside) (base : Base) → HoldsBeside beside base (state g old) → before ≡ with_base before base → IsMade decide IsRight beside base before after x (state g new))

  -- so it is of each base of whose portfolio this was so
  abbrev pub CarriesWhere : {A E : Type 0} → (Portfolio → Type 0) → (Base → Result (A × PortfolioChange) Refusal) → Meta → Meta → Result A E → Type 0
  CarriesWhere IsSo decide before after result =
      HasCleanDisk (state g new)
      → IfOk result (λ x. (beside : Beside) (base : Base) → HoldsBeside beside base (state g old) → before ≡ with_base before base → IsSo base.portfolio → IsCarriedOut decide beside base before after x (state g new))

  -- a refusal is that of the test of what was kept, or want of memory or the store's in its place
  abbrev pub Refuses : {A T : Type 0} → (Kept → Result A Refusal) → Result T Refusal → Type 0
  Refuses test result = HasCleanDisk (state g new) → IfErr result (λ refusal. (kept : Kept) → Keeps kept (state g old) → IsRefusalOf refusal (test kept))

  -- the same of the base that the tables held beside any numbers and stamps, where the caller's numbers were those of the base
  abbrev pub RefusesOn : {A T : Type 0} → (Base → Result A Refusal) → Meta → Result T Refusal → Type 0
  RefusesOn decide before result =
      HasCleanDisk (state g new) → IfErr result (λ refusal. (beside : Beside) (base : Base) → HoldsBeside beside base (state g old) → before ≡ with_base before base → IsRefusalOf refusal (decide base))

  -- after Ok, the answer is right for the base that the tables held beside any numbers and stamps, and they hold it still
  abbrev pub FindsOn : {T E : Type 0} → (Base → T → Type 0) → Result T E → Type 0
  FindsOn IsRight result = HasCleanDisk (state g new) → IfOk result (λ x. (beside : Beside) (base : Base) → HoldsBeside beside base (state g old) → IsRight base x × HoldsBeside beside base (state g new))
