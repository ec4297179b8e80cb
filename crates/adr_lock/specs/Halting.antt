-- What ends a thread that works over a store: that the store refused.
use Rattle.std.specs.Prelude.{◌≡◌, ◌⊎◌, Bool, true, false, ◌&&◌, IsTrue, IsFalse, All, List, [], ◌∷◌, ◌++◌, Result, Ok, Err}
use Rattle.adr_text.specs.declared.refusal.Refusal.{Refusal}
use Rattle.adr_text.specs.declared.refusal.Refusal.TheVariants.{Store}
use Rattle.adr_lock.specs.Steps.{Step}

-- whether a refusal is the store's
abbrev pub is_stores : Refusal → Bool
is_stores Store = true
is_stores _ = false

-- whether the store refused
abbrev pub by_store : {A : Type 0} → Result A Refusal → Bool
by_store (Ok answer) = false
by_store (Err refusal) = is_stores refusal

-- whether who was answered so has to end: with a flag to set, where the store refused
abbrev pub halts_by : {A : Type 0} → Bool → Result A Refusal → Bool
halts_by has_flag outcome = has_flag && by_store outcome

-- a step that the store did not refuse
abbrev pub IsQuiet : Step → Type 0
IsQuiet step = IsFalse (by_store step.1)

-- nothing, or the one step that the store refused
abbrev pub IsEnd : Bool → List Step → Type 0
IsEnd false end = end ≡ []
IsEnd true end = (step : Step) × (end ≡ step ∷ []) × IsTrue (by_store step.1)

-- further steps, of which the store refused none, but for the last where they ended by that
pub record EndsByStore (ended : Bool) (first last : List Step) : Type 0 where
  pub quiet : List Step
  pub end : List Step
  pub steps : last ≡ first ++ (quiet ++ end)
  pub each : All IsQuiet quiet
  pub end_is : IsEnd ended end

-- the same of who looks too: they may also have ended by a look, which is no step
abbrev pub EndsByCall : Bool → List Step → List Step → Type 0
EndsByCall ended first last = EndsByStore ended first last ⊎ (IsTrue ended × EndsByStore false first last)

-- a worker halted, or ended otherwise: with a flag to set, it took no step behind one that the store refused, and halted just where the store refused one; without a flag it did not halt
pub record HaltsByStep (has_flag halted : Bool) (first last : List Step) : Type 0 where
  pub ends : IsTrue has_flag → EndsByStore halted first last
  pub only : IsTrue halted → IsTrue has_flag

-- the same of a worker that looks too
pub record HaltsByCall (has_flag halted : Bool) (first last : List Step) : Type 0 where
  pub ends : IsTrue has_flag → EndsByCall halted first last
  pub only : IsTrue halted → IsTrue has_flag
