-- What is replied to what was planned and to what was read, whoever takes it.
use Rattle.std.proofs.Common.{◌≡◌, inl, inr, ℕ, List, Option, Some, None, IfSome, Result, Ok, Err, refl, sym, ap, subst, ◌∙◌}
use Rattle.adr_text.specs.declared.refusal.Refusal.{Refusal}
use Rattle.adr_text.specs.declared.refusal.Refusal.TheVariants.{OutOfMemory}
use Rattle.adr_queries.specs.declared.role.Role.{Role}
use Rattle.adr_queries.specs.declared.answer.Answer.{Answer}
use Rattle.adr_wire.specs.declared.end.ReadEnd.{ReadEnd}
use Rattle.adr_wire.specs.declared.end.ReadEnd.TheVariants.{Bytes, Reader}
use Rattle.adr_wire.specs.declared.end.ReadEnd.TheVariants as end
use Rattle.adr_wire.specs.declared.end.MessageFault.{MessageFault}
use Rattle.adr_wire.specs.Pieces.{OnFault, IsReading}
use Rattle.adr_request.specs.declared.request.HttpRequest.{HttpRequest}
use Rattle.adr_request.specs.Requests.{request_parts, IsRequest}
use Rattle.adr_reply.specs.Problems.{Tells}
use Rattle.adr_reply.specs.declared.problem.Problem.{Problem}
use Rattle.adr_reply.specs.declared.problem.Problem.TheVariants.{Refused}
use Rattle.adr_asked.specs.declared.asked.Asked.{Asked}
use Rattle.adr_http.specs.Serving.{problem_bytes, fault_problem, IsTold, IsToldAtEnd}
use Rattle.adr_http.specs.Takers.{IsBuiltBy, of_outcome, of_problem, of_want, MayLeaveBy, not_taken, was_taken, as_built, IsServedBy, as_read, not_read}

module _ {T : Type 0} (takes : T → Asked → Result Answer Refusal → T → Type 0) (client : List ℕ) (before : T) where
  module _ (planned : Result Asked Problem) (after : T) where
    -- want of memory while it was planned is want of memory in place of the reply to it
    want_built : (out : List ℕ) → IsBuiltBy takes client before (Err (Refused OutOfMemory)) out after → IsBuiltBy takes client before planned out after
    want_built out (of_outcome a outcome is took told) = absurd cc
    want_built out (of_problem problem is same told) =
        let this : Refused OutOfMemory ≡ problem = cc is in
        of_want same (told ∙ ap problem_bytes (sym this))
    want_built out (of_want same none) = of_want same none

    want_left : MayLeaveBy takes before (Err (Refused OutOfMemory)) after → MayLeaveBy takes before planned after
    want_left (not_taken same) = not_taken same
    want_left (was_taken a outcome is took) = absurd cc

    -- what was planned stands for the plan, or memory ran out
    pub built_by_plan : (plan : Result Asked Problem) (out : List ℕ) → Tells (λ a. a) plan planned → IsBuiltBy takes client before plan out after → IsBuiltBy takes client before planned out after
    built_by_plan (Ok a) out is built = subst (λ (plan : Result Asked Problem). IsBuiltBy takes client before plan out after) (sym is) built
    built_by_plan (Err (Refused OutOfMemory)) out is built = want_built out built
    built_by_plan (Err e) out is built = subst (λ (plan : Result Asked Problem). IsBuiltBy takes client before plan out after) (sym is) built

    pub left_by_plan : (plan : Result Asked Problem) → Tells (λ a. a) plan planned → MayLeaveBy takes before plan after → MayLeaveBy takes before planned after
    left_by_plan (Ok a) is left = subst (λ (plan : Result Asked Problem). MayLeaveBy takes before plan after) (sym is) left
    left_by_plan (Err (Refused OutOfMemory)) is left = want_left left
    left_by_plan (Err e) is left = subst (λ (plan : Result Asked Problem). MayLeaveBy takes before plan after) (sym is) left

  -- what is told where no request was read is the reply to these bytes
  module _ (roles : List (List ℕ × Role)) (bytes out : List ℕ) where
    fault_served : (f : MessageFault) → IsRequest bytes (Err f) → IsTold out f → IsServedBy takes client roles before bytes out before
    fault_served f is (inl told) = as_read (Err f) is (as_built (of_problem (fault_problem f) refl refl told))
    fault_served f is (inr none) = not_read none refl

    pub end_served : (e : ReadEnd) → OnFault e (λ f. IsRequest bytes (Err f)) → IsToldAtEnd out e → IsServedBy takes client roles before bytes out before
    end_served (Bytes f) is told = fault_served f is told
    end_served Reader is told = elim told [ ]
    end_served end.OutOfMemory is told = not_read told refl

-- what the reader says of whatever bytes it has, said of these
pub reading_at : (reading : Result HttpRequest ReadEnd) (left : Option (List ℕ)) → IsReading request_parts reading (λ read. (bytes : List ℕ) → left ≡ Some bytes → IsRequest bytes read)
    → (bytes : List ℕ) → left ≡ Some bytes → IsReading request_parts reading (λ read. IsRequest bytes read)
reading_at (Ok request) left is bytes known = is bytes known
reading_at (Err (Bytes f)) left is bytes known = is bytes known
reading_at (Err Reader) left is bytes known = tt
reading_at (Err end.OutOfMemory) left is bytes known = tt

-- what holds of bytes that are known
pub of_known : {P : List ℕ → Type 0} (left : Option (List ℕ)) → ((bytes : List ℕ) → left ≡ Some bytes → P bytes) → IfSome left P
of_known None all = tt
of_known (Some bytes) all = all bytes refl
