-- What holds of a taker holds of what it takes for: the relation is carried along a function.
use Rattle.std.proofs.Common.{ℕ, List, Option, Result, ap}
use Rattle.adr_text.specs.declared.refusal.Refusal.{Refusal}
use Rattle.adr_queries.specs.declared.role.Role.{Role}
use Rattle.adr_queries.specs.declared.answer.Answer.{Answer}
use Rattle.adr_reply.specs.declared.problem.Problem.{Problem}
use Rattle.adr_asked.specs.declared.asked.Asked.{Asked}
use Rattle.adr_http.specs.Takers.{TakesOnce, untouched, taken, IsBuiltBy, of_outcome, of_problem, of_want, MayLeaveBy, not_taken, was_taken, IsReplied, as_built, without_text, IsServedBy, as_read, not_read, ServesBy, ServesPartBy}

module _ {T U : Type 0} (takes : T → Asked → Result Answer Refusal → T → Type 0) (other : U → Asked → Result Answer Refusal → U → Type 0) (f : T → U) (before after : T)
    (of : (a : Asked) (outcome : Result Answer Refusal) → takes before a outcome after → other (f before) a outcome (f after)) where
  pub once : TakesOnce takes before after → TakesOnce other (f before) (f after)
  once (untouched same) = untouched (ap f same)
  once (taken a outcome took) = taken a outcome (of a outcome took)

  left : (plan : Result Asked Problem) → MayLeaveBy takes before plan after → MayLeaveBy other (f before) plan (f after)
  left plan (not_taken same) = not_taken (ap f same)
  left plan (was_taken a outcome is took) = was_taken a outcome is (of a outcome took)

  module _ (client : List ℕ) where
    built : (plan : Result Asked Problem) (out : List ℕ) → IsBuiltBy takes client before plan out after → IsBuiltBy other client (f before) plan out (f after)
    built plan out (of_outcome a outcome is took told) = of_outcome a outcome is (of a outcome took) told
    built plan out (of_problem problem is same told) = of_problem problem is (ap f same) told
    built plan out (of_want same none) = of_want (ap f same) none

    replied : (plan : Result Asked Problem) (out : List ℕ) → IsReplied takes client before plan out after → IsReplied other client (f before) plan out (f after)
    replied plan out (as_built reply) = as_built (built plan out reply)
    replied plan out (without_text none leaves) = without_text none (left plan leaves)

    module _ (roles : List (List ℕ × Role)) (bytes : List ℕ) where
      served : (out : List ℕ) → IsServedBy takes client roles before bytes out after → IsServedBy other client roles (f before) bytes out (f after)
      served out (as_read read is reply) = as_read read is (replied _ out reply)
      served out (not_read none same) = not_read none (ap f same)

      pub serves : (old new : Option (List ℕ)) → ServesBy takes client roles before bytes after old new → ServesBy other client roles (f before) bytes (f after) old new
      serves old new all = record { out = all.out; served = served all.out all.served; written = all.written }

      pub serves_part : (old new : Option (List ℕ)) → ServesPartBy takes client roles before bytes after old new → ServesPartBy other client roles (f before) bytes (f after) old new
      serves_part old new part = record { out = part.out; served = served part.out part.served; written = part.written }
