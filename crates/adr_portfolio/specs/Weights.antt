-- What setting a weight makes of the portfolio that is kept.
use Rattle.std.specs.Prelude.{◌≡◌, Result, Ok, OnOk}
use Rattle.sqlite.specs.Store.{Ghosts}
use Rattle.sqlite.specs.Held.{Held, state}
use Rattle.sqlite.specs.State.{State, HasCleanDisk}
use Rattle.adr_text.specs.declared.refusal.Refusal.{Refusal}
use Rattle.adr_state.specs.declared.base.Base.{Base}
use Rattle.adr_state.specs.declared.portfolio.Portfolio.{Portfolio}
use Rattle.adr_state.specs.Portfolios.{PortfolioChange}
use Rattle.adr_db.specs.declared.meta.Meta.{Meta}
use Rattle.adr_db.specs.Bases.{Beside, with_base, HoldsBeside}
use Rattle.adr_db.specs.BaseCalls.{IsCounted}

-- what is decided of the portfolio of a base is a change, which is made of it
pub record IsSet (decide : Portfolio → Result PortfolioChange Refusal) (beside : Beside) (base : Base) (before after : Meta) (s : State) : Type 0 where
  pub change : PortfolioChange
  pub decided : decide base.portfolio ≡ Ok change
  pub left : IsCounted change beside base before after s

module _ {S : Type 0} (g : Ghosts S) (old new : Held S) where
  -- after Ok, what is decided of the portfolio of the base that the tables held beside any numbers and stamps is carried out, where the caller's
  -- numbers were those of the base; these are then those of the base after
  abbrev pub Sets : {T E : Type 0} → (Portfolio → Result PortfolioChange Refusal) → Meta → Meta → Result T E → Type 0
  Sets decide before after result =
      HasCleanDisk (state g new) → OnOk result ((beside : Beside) (base : Base) → HoldsBeside beside base (state g old) → before ≡ with_base before base → IsSet decide beside base before after (state g new))
