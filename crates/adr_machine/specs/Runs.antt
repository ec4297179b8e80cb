-- Whole runs, over any step. A step that was answered by want of memory or by the store stands for no step.
use Rattle.std.specs.Prelude.{◌≡◌, ℕ, Bool, true, false, MatchBool, List, [], ◌∷◌, Result, Ok, Err, IfErr}
use Rattle.adr_text.specs.declared.refusal.Refusal.{Refusal}
use Rattle.adr_text.specs.declared.refusal.Refusal.TheVariants.{OutOfMemory, Store}
use Rattle.adr_state.specs.declared.state.State.{State}
use Rattle.adr_state.specs.declared.limits.Settings.{Settings}
use Rattle.adr_machine.specs.declared.command.Command.{Command}
use Rattle.adr_queries.specs.declared.answer.Answer.{Answer}
use Rattle.adr_queries.specs.Listed.{IsListed}
use Rattle.adr_machine.specs.Listed.{listed}
use Rattle.adr_machine.specs.Steps.{step}

-- what a step tells the caller
abbrev pub told : {A S : Type 0} → Result (A × S) Refusal → Result A Refusal
told (Ok (answer, next)) = Ok answer
told (Err refusal) = Err refusal

-- the state after a step: a refusal leaves it
abbrev pub state_after : {A S : Type 0} → S → Result (A × S) Refusal → S
state_after s (Ok (answer, next)) = next
state_after s (Err refusal) = s

-- whether an answer stands for a step
abbrev pub stands : {A : Type 0} → Result A Refusal → Bool
stands (Ok answer) = true
stands (Err OutOfMemory) = false
stands (Err Store) = false
stands (Err refusal) = true

-- what an answer says of a step: one that stands is the step's, and the state is where it leads; another stands for no step
abbrev pub IsTaken : {A S : Type 0} → S → Result (A × S) Refusal → Result A Refusal → S → Type 0
IsTaken s taken r t = MatchBool (stands r) ((r ≡ told taken) × (t ≡ state_after s taken)) (t ≡ s)

-- from s, these answers to these commands lead to t: to each command in turn an answer that stands is the step's, and another takes no step
abbrev pub IsRun : {A C S : Type 0} → (S → C → Result (A × S) Refusal) → S → List C → List (Result A Refusal) → S → Type 0
IsRun step s [] [] t = t ≡ s
IsRun {S = S} step s (c ∷ cs) (r ∷ rs) t = (u : S) × IsTaken s (step s c) r u × IsRun step u cs rs t
IsRun step s _ _ t = ⊥

-- the machine's step at a pair of a moment and a command
abbrev pub step_at : Settings → State → ℕ × Command → Result (Answer × State) Refusal
step_at settings s c = step settings s c.0 c.1

-- to each command in turn, each refusal is one that is listed for it, or want of memory, or the store's, where that may refuse
abbrev pub AreListed : Type 0 → List (ℕ × Command) → List (Result Answer Refusal) → Type 0
AreListed may_refuse [] [] = Unit {0}
AreListed may_refuse (c ∷ cs) (r ∷ rs) = IfErr r (IsListed may_refuse (listed c.1)) × AreListed may_refuse cs rs
AreListed may_refuse _ _ = ⊥
