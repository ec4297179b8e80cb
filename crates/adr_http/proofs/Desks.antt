-- What is replied over a desk is the machine's turn.
use Rattle.std.proofs.Common.{◌≡◌, ℕ, List, Option, Result, Ok, Err, refl, sym, ap, subst, ◌∙◌}
use Rattle.adr_text.specs.declared.refusal.Refusal.{Refusal}
use Rattle.adr_text.specs.declared.refusal.Refusal.TheVariants.{OutOfMemory}
use Rattle.adr_state.specs.declared.state.State.{State}
use Rattle.adr_state.specs.declared.limits.Settings.{Settings}
use Rattle.adr_queries.specs.declared.role.Role.{Role}
use Rattle.adr_queries.specs.declared.answer.Answer.{Answer}
use Rattle.adr_request.specs.Requests.{RequestParts}
use Rattle.adr_reply.specs.declared.problem.Problem.{Problem}
use Rattle.adr_wire.specs.declared.end.MessageFault.{MessageFault}
use Rattle.adr_asked.specs.declared.asked.Asked.{Asked}
use Rattle.adr_asked.specs.Turns.{asked_step, asks_desk, Turn, Outcome, as_machine, no_memory, store_refused, Takes, as_defined, without_memory, refused_by_store, without_text, MayLeave, no_step, step_taken}
use Rattle.adr_http.specs.Serving.{want_bytes, outcome_bytes, plan_turn, reading_turn, IsBuilt, of_turn, of_memory, of_store, IsServed, as_read, not_read, Serves, ServesPart}
use Rattle.adr_http.specs.Takers as by
use Rattle.adr_http.specs.Takers.{reading_plan, IsBuiltBy, MayLeaveBy, IsReplied, IsServedBy, ServesBy, ServesPartBy}

-- a turn whose text could not be built is told by want of memory
left_without_text : {may_refuse : Type 0} (want : Refusal → List ℕ) {s t : State} {turn : Turn} → MayLeave s turn t → Takes may_refuse want s turn (want OutOfMemory) t
left_without_text want (no_step same) = without_memory refl same
left_without_text want (step_taken taken) = without_text refl taken

-- a reply that was built is that of a turn that was taken
built_is_taken : {may_refuse : Type 0} {s t : State} {turn : Turn} {out : List ℕ} → IsBuilt may_refuse s turn out t → Takes may_refuse want_bytes s turn out t
built_is_taken (of_turn told same) = as_defined told same
built_is_taken (of_memory told same) = without_memory told same
built_is_taken (of_store may asks told same) = refused_by_store may asks told same

module _ {T : Type 0} (takes : T → Asked → Result Answer Refusal → T → Type 0) (may_refuse : Type 0) (settings : Settings) (before after : T) (s t : State) (now : ℕ)
    (of : (a : Asked) (outcome : Result Answer Refusal) → takes before a outcome after → Outcome may_refuse (asks_desk a) s (asked_step settings s now a) outcome t)
    (same : after ≡ before → t ≡ s) where
  outcome_built : (a : Asked) (outcome : Result Answer Refusal) (out : List ℕ) → Outcome may_refuse (asks_desk a) s (asked_step settings s now a) outcome t
      → out ≡ outcome_bytes settings.client a outcome → IsBuilt may_refuse s (plan_turn settings s now (Ok a)) out t
  outcome_built a outcome out (as_machine is next) told = of_turn (told ∙ ap (outcome_bytes settings.client a) is) next
  outcome_built a outcome out (no_memory is next) told = of_memory (told ∙ ap (outcome_bytes settings.client a) is) next
  outcome_built a outcome out (store_refused may asks is next) told = of_store may asks (told ∙ ap (outcome_bytes settings.client a) is) next

  outcome_left : (a : Asked) (outcome : Result Answer Refusal) → Outcome may_refuse (asks_desk a) s (asked_step settings s now a) outcome t → MayLeave s (plan_turn settings s now (Ok a)) t
  outcome_left a outcome (as_machine is next) = step_taken next
  outcome_left a outcome (no_memory is next) = no_step next
  outcome_left a outcome (store_refused may asks is next) = no_step next

  pub built : (plan : Result Asked Problem) (out : List ℕ) → IsBuiltBy takes settings.client before plan out after → IsBuilt may_refuse s (plan_turn settings s now plan) out t
  built plan out (by.of_outcome a outcome is took told) =
      subst (λ (p : Result Asked Problem). IsBuilt may_refuse s (plan_turn settings s now p) out t) (sym is) (outcome_built a outcome out (of a outcome took) told)
  built plan out (by.of_problem problem is unchanged told) =
      subst (λ (p : Result Asked Problem). IsBuilt may_refuse s (plan_turn settings s now p) out t) (sym is) (of_turn told (same unchanged))
  built plan out (by.of_want unchanged none) = of_memory none (same unchanged)

  pub left : (plan : Result Asked Problem) → MayLeaveBy takes before plan after → MayLeave s (plan_turn settings s now plan) t
  left plan (by.not_taken unchanged) = no_step (same unchanged)
  left plan (by.was_taken a outcome is took) =
      subst (λ (p : Result Asked Problem). MayLeave s (plan_turn settings s now p) t) (sym is) (outcome_left a outcome (of a outcome took))

  replied : (plan : Result Asked Problem) (out : List ℕ) → IsReplied takes settings.client before plan out after → Takes may_refuse want_bytes s (plan_turn settings s now plan) out t
  replied plan out (by.as_built reply) = built_is_taken (built plan out reply)
  replied plan out (by.without_text none leaves) =
      subst (λ (o : List ℕ). Takes may_refuse want_bytes s (plan_turn settings s now plan) o t) (sym none) (left_without_text want_bytes (left plan leaves))

  module _ (roles : List (List ℕ × Role)) (bytes : List ℕ) where
    read_turn : (read : Result RequestParts MessageFault) → plan_turn settings s now (reading_plan roles read) ≡ reading_turn settings roles s now read
    read_turn (Ok r) = refl
    read_turn (Err f) = refl

    served : (out : List ℕ) → IsServedBy takes settings.client roles before bytes out after → IsServed may_refuse settings roles s now bytes out t
    served out (by.as_read read is reply) =
        as_read read is (subst (λ (turn : Turn). Takes may_refuse want_bytes s turn out t) (read_turn read) (replied (reading_plan roles read) out reply))
    served out (by.not_read none unchanged) = not_read none (same unchanged)

    pub serves : (old new : Option (List ℕ)) → ServesBy takes settings.client roles before bytes after old new → Serves may_refuse settings roles s now bytes t old new
    serves old new all = record { out = all.out; served = served all.out all.served; written = all.written }

    pub serves_part : (old new : Option (List ℕ)) → ServesPartBy takes settings.client roles before bytes after old new → ServesPart may_refuse settings roles s now bytes t old new
    serves_part old new part = record { out = part.out; served = served part.out part.served; written = part.written }
