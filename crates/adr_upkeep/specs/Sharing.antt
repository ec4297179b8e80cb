-- What is shown of an event, where those who share in its program may be known.
use Rattle.std.specs.Prelude.{Result, IfOk}
use Rattle.sqlite.specs.Store.{Ghosts}
use Rattle.sqlite.specs.Held.{Held, state}
use Rattle.sqlite.specs.State.{HasCleanDisk}
use Rattle.adr_state.specs.declared.base.Base.{Base}
use Rattle.adr_db.specs.Bases.{Beside, kept_beside, HoldsBeside}
use Rattle.adr_db_portfolio.specs.declared.participant.Sharers.{Sharers}
use Rattle.adr_db_portfolio.specs.KnownSharers.{AreThoseOf}

module _ {S : Type 0} (g : Ghosts S) (old new : Held S) where
  -- after Ok, where they were right, the answer is by the base that is held, and so are they still
  abbrev pub FindsSharing : {T E : Type 0} → Sharers → Sharers → (Base → T → Type 0) → Result T E → Type 0
  FindsSharing before after IsRight result =
      HasCleanDisk (state g new)
      → IfOk result (λ x. (beside : Beside) (base : Base) → HoldsBeside beside base (state g old) → AreThoseOf (kept_beside beside base) before
      → IsRight base x × AreThoseOf (kept_beside beside base) after × HoldsBeside beside base (state g new))
