-- What is asked as it is taken: what is told of it, and the state that it leaves.
use Rattle.std.specs.Prelude.{◌≡◌, ℕ, Bool, true, false, List, Result, Ok, Err}
use Rattle.adr_text.specs.Refusals.{◌>>=◌}
use Rattle.adr_text.specs.declared.refusal.Refusal.{Refusal}
use Rattle.adr_text.specs.declared.refusal.Refusal.TheVariants.{OutOfMemory, Store}
use Rattle.adr_state.specs.declared.state.State.{State}
use Rattle.adr_state.specs.declared.limits.Settings.{Settings}
use Rattle.adr_queries.specs.declared.answer.Answer.{Answer}
use Rattle.adr_queries.specs.declared.answer.Answer.TheVariants as answer
use Rattle.adr_queries.specs.Replies.{reply}
use Rattle.adr_machine.specs.Steps.{step}
use Rattle.adr_machine.specs.Runs.{told, state_after}
use Rattle.adr_asked.specs.declared.asked.Asked.{Asked}
use Rattle.adr_asked.specs.declared.asked.Asked.TheVariants as asked

-- the machine's answer to what is asked, and the state after it; a query leaves the state
abbrev pub asked_step : Settings → State → ℕ → Asked → Result (Answer × State) Refusal
asked_step settings s now (asked.Command c) = step settings s now c
asked_step settings s now (asked.Page c skipped) = step settings s now c
asked_step settings s now (asked.Query q) = reply s q >>= λ a. Ok (a, s)
asked_step settings s now asked.Nothing = Ok (answer.Done, s)

-- whether what is asked is asked of the desk, as a command, a page or a query
abbrev pub asks_desk : Asked → Bool
asks_desk asked.Nothing = false
asks_desk _ = true

-- a turn: what is printed, the state after it, and whether the desk is asked
pub record Turn : Type 0 where
  pub text : List ℕ
  pub state : State
  pub asks : Bool

-- what is printed at once, with no question to the desk
abbrev pub at_once : List ℕ → State → Turn
at_once text s = record { text = text; state = s; asks = false }

-- what is printed of the machine's answer to what is asked, and the state after it
abbrev pub turn_by : (Result Answer Refusal → List ℕ) → State → Result (Answer × State) Refusal → Bool → Turn
turn_by text s r asks = record { text = text (told r); state = state_after s r; asks = asks }

-- ---- turns as they are taken

-- an answer to what is asked, and the state after it, over a desk whose store may refuse, or that has none that may
pub data Outcome (may_refuse : Type 0) (asks : Bool) (s : State) (r : Result (Answer × State) Refusal) (answer : Result Answer Refusal) (t : State) : Type 0 where
  -- the machine's
  as_machine : answer ≡ told r → t ≡ state_after s r → Outcome may_refuse asks s r answer t
  -- want of memory in its place, and no step
  no_memory : answer ≡ Err OutOfMemory → t ≡ s → Outcome may_refuse asks s r answer t
  -- the store's refusal in its place, where the desk is asked and its store may refuse, and no step
  store_refused : may_refuse → asks ≡ true → answer ≡ Err Store → t ≡ s → Outcome may_refuse asks s r answer t

-- a turn as it was taken, over a desk whose store may refuse, or that has none that may
pub data Takes (may_refuse : Type 0) (want : Refusal → List ℕ) (s : State) (turn : Turn) (out : List ℕ) (t : State) : Type 0 where
  -- the turn as it is defined
  as_defined : out ≡ turn.text → t ≡ turn.state → Takes may_refuse want s turn out t
  -- want of memory in its place, and no step
  without_memory : out ≡ want OutOfMemory → t ≡ s → Takes may_refuse want s turn out t
  -- the store's refusal in its place, where the line asks the desk and its store may refuse, and no step
  refused_by_store : may_refuse → turn.asks ≡ true → out ≡ want Store → t ≡ s → Takes may_refuse want s turn out t
  -- want of memory in place of the text of a step that was taken
  without_text : out ≡ want OutOfMemory → t ≡ turn.state → Takes may_refuse want s turn out t

-- the state behind a turn whose text could not be built
pub data MayLeave (s : State) (turn : Turn) (t : State) : Type 0 where
  -- that of before: no step was taken
  no_step : t ≡ s → MayLeave s turn t
  -- that of the step
  step_taken : t ≡ turn.state → MayLeave s turn t
