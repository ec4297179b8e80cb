-- Turns as they are taken, and those whose text could not be built.
use Rattle.std.proofs.Common.{◌≡◌, ℕ, Bool, true, false, List, Option, Result, Ok, Err, refl, ap, sym, subst, ◌∙◌}
use Rattle.adr_reply.specs.Problems.{Tells}
use Rattle.adr_reply.specs.declared.problem.Problem.{Problem}
use Rattle.adr_reply.specs.declared.problem.Problem.TheVariants.{Refused}
use Rattle.adr_text.specs.declared.refusal.Refusal.{Refusal}
use Rattle.adr_text.specs.declared.refusal.Refusal.TheVariants.{OutOfMemory}
use Rattle.adr_state.specs.declared.state.State.{State}
use Rattle.adr_queries.specs.declared.answer.Answer.{Answer}
use Rattle.adr_asked.specs.declared.asked.Asked.{Asked}
use Rattle.adr_state.specs.declared.limits.Settings.{Settings}
use Rattle.adr_script.specs.Bodies.{told_by, want_by, outcome_text}
use Rattle.adr_asked.specs.Turns.{Turn, at_once, turn_by, Outcome, as_machine, no_memory, store_refused, Takes, as_defined, without_memory, refused_by_store, without_text, MayLeave, no_step, step_taken}
use Rattle.adr_script.specs.Turns.{turn_of}

-- an answer to what is asked, printed under some name, is a turn
module _ (client role : List ℕ) (a : Asked) {may_refuse : Type 0} {asks : Bool} {s t : State} {r : Result (Answer × State) Refusal} {answer : Result Answer Refusal} where
  pub printed_is_a_turn : {out : List ℕ} → out ≡ outcome_text client role a answer → Outcome may_refuse asks s r answer t → Takes may_refuse (want_by role) s (turn_by (outcome_text client role a) s r asks) out t
  unfolding told_by outcome_text
  printed_is_a_turn printed (as_machine is same) = as_defined (printed ∙ ap (outcome_text client role a) is) same
  printed_is_a_turn printed (no_memory is same) = without_memory (printed ∙ ap (outcome_text client role a) is) same
  printed_is_a_turn printed (store_refused may asked is same) = refused_by_store may asked (printed ∙ ap (outcome_text client role a) is) same

  -- and where it could not be printed, it left one of the states of that turn
  pub outcome_leaves : Outcome may_refuse asks s r answer t → MayLeave s (turn_by (outcome_text client role a) s r asks) t
  outcome_leaves (as_machine is same) = step_taken same
  outcome_leaves (no_memory is same) = no_step same
  outcome_leaves (store_refused may asked is same) = no_step same

-- a turn that left one of its states is a turn with some text
pub left_is_a_turn : {may_refuse : Type 0} (want : Refusal → List ℕ) {s t : State} {turn : Turn} → MayLeave s turn t → (out : List ℕ) × Takes may_refuse want s turn out t
left_is_a_turn want (no_step same) = (want OutOfMemory, without_memory refl same)
left_is_a_turn want (step_taken taken) = (want OutOfMemory, without_text refl taken)

-- want of memory that is told at once is want of memory in place of any turn
told_at_once : {may_refuse : Type 0} (want : Refusal → List ℕ) {s t : State} {out : List ℕ} (turn : Turn) → Takes may_refuse want s (at_once (want OutOfMemory) s) out t → Takes may_refuse want s turn out t
told_at_once want turn (as_defined printed same) = without_memory printed same
told_at_once want turn (without_memory printed same) = without_memory printed same
told_at_once want turn (refused_by_store may asks printed same) = absurd (let no : false ≡ true = asks in cc)
told_at_once want turn (without_text printed same) = without_memory printed same

left_at_once : {want : List ℕ} {s t : State} (turn : Turn) → MayLeave s (at_once want s) t → MayLeave s turn t
left_at_once turn (no_step same) = no_step same
left_at_once turn (step_taken taken) = no_step taken

-- the turn of words as they were read is that of the words, or memory ran out
module _ (settings : Settings) (s t : State) (now : ℕ) (role : List ℕ) (asked : Result (Option Asked) Problem) where
  pub read_is_a_turn : (may_refuse : Type 0) (words : Result (Option Asked) Problem) (out : List ℕ) → Tells (λ a. a) words asked → Takes may_refuse (want_by role) s (turn_of settings s now role words) out t → Takes may_refuse (want_by role) s (turn_of settings s now role asked) out t
  read_is_a_turn may_refuse (Ok a) out is h = subst (λ (r : Result (Option Asked) Problem). Takes may_refuse (want_by role) s (turn_of settings s now role r) out t) (sym is) h
  read_is_a_turn may_refuse (Err (Refused OutOfMemory)) out is h = told_at_once (want_by role) _ h
  read_is_a_turn may_refuse (Err e) out is h = subst (λ (r : Result (Option Asked) Problem). Takes may_refuse (want_by role) s (turn_of settings s now role r) out t) (sym is) h

  pub read_leaves : (words : Result (Option Asked) Problem) → Tells (λ a. a) words asked → MayLeave s (turn_of settings s now role words) t → MayLeave s (turn_of settings s now role asked) t
  read_leaves (Ok a) is h = subst (λ (r : Result (Option Asked) Problem). MayLeave s (turn_of settings s now role r) t) (sym is) h
  read_leaves (Err (Refused OutOfMemory)) is h = left_at_once _ h
  read_leaves (Err e) is h = subst (λ (r : Result (Option Asked) Problem). MayLeave s (turn_of settings s now role r) t) (sym is) h
