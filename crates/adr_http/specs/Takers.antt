-- What is replied to a request, whoever takes what it asks: by the relation between the taker before, what is asked, what comes of it, and the taker after, and by the name under which the node answers.
use Rattle.std.specs.Prelude.{◌≡◌, ℕ, List, Option, Result, Ok, Err}
use Rattle.std.specs.Io.KnownBytes.{Appends}
use Rattle.adr_text.specs.declared.refusal.Refusal.{Refusal}
use Rattle.adr_text.specs.declared.refusal.Refusal.TheVariants.{OutOfMemory}
use Rattle.adr_wire.specs.Calls.{WritesPart}
use Rattle.adr_wire.specs.declared.end.MessageFault.{MessageFault}
use Rattle.adr_queries.specs.declared.role.Role.{Role}
use Rattle.adr_queries.specs.declared.answer.Answer.{Answer}
use Rattle.adr_request.specs.Requests.{RequestParts, IsRequest}
use Rattle.adr_reply.specs.declared.problem.Problem.{Problem}
use Rattle.adr_asked.specs.declared.asked.Asked.{Asked}
use Rattle.adr_http.specs.Plans.{plan_of}
use Rattle.adr_http.specs.Serving.{problem_bytes, want_bytes, outcome_bytes, fault_problem}

-- what is planned for what was read: for bytes that are no request their problem
abbrev pub reading_plan : List (List ℕ × Role) → Result RequestParts MessageFault → Result Asked Problem
reading_plan roles (Ok r) = plan_of roles r
reading_plan roles (Err f) = Err (fault_problem f)

module _ {T : Type 0} (takes : T → Asked → Result Answer Refusal → T → Type 0) where
  -- one thing was taken at most, and once
  pub data TakesOnce (before after : T) : Type 0 where
    -- nothing was taken
    untouched : after ≡ before → TakesOnce before after
    -- something was taken, once
    taken : (a : Asked) (outcome : Result Answer Refusal) → takes before a outcome after → TakesOnce before after

  -- a reply to what was planned that was built
  pub data IsBuiltBy (client : List ℕ) (before : T) (plan : Result Asked Problem) (out : List ℕ) (after : T) : Type 0 where
    -- what was planned was taken, and this is the reply to what came of it
    of_outcome : (a : Asked) (outcome : Result Answer Refusal) → plan ≡ Ok a → takes before a outcome after → out ≡ outcome_bytes client a outcome → IsBuiltBy client before plan out after
    -- a problem was planned, for which nothing is taken
    of_problem : (problem : Problem) → plan ≡ Err problem → after ≡ before → out ≡ problem_bytes problem → IsBuiltBy client before plan out after
    -- want of memory in its place, and nothing is taken
    of_want : after ≡ before → out ≡ want_bytes OutOfMemory → IsBuiltBy client before plan out after

  -- the taker behind a plan to which no reply could be built
  pub data MayLeaveBy (before : T) (plan : Result Asked Problem) (after : T) : Type 0 where
    -- nothing was taken
    not_taken : after ≡ before → MayLeaveBy before plan after
    -- what was planned was taken
    was_taken : (a : Asked) (outcome : Result Answer Refusal) → plan ≡ Ok a → takes before a outcome after → MayLeaveBy before plan after

  -- what is replied to what was planned
  pub data IsReplied (client : List ℕ) (before : T) (plan : Result Asked Problem) (out : List ℕ) (after : T) : Type 0 where
    -- a reply that was built
    as_built : IsBuiltBy client before plan out after → IsReplied client before plan out after
    -- want of memory in its place
    without_text : out ≡ want_bytes OutOfMemory → MayLeaveBy before plan after → IsReplied client before plan out after

  -- what is replied to bytes
  pub data IsServedBy (client : List ℕ) (roles : List (List ℕ × Role)) (before : T) (bytes out : List ℕ) (after : T) : Type 0 where
    -- the reply to what they are read as
    as_read : (read : Result RequestParts MessageFault) → IsRequest bytes read → IsReplied client before (reading_plan roles read) out after → IsServedBy client roles before bytes out after
    -- memory ran out while they were read, and nothing is taken
    not_read : out ≡ want_bytes OutOfMemory → after ≡ before → IsServedBy client roles before bytes out after

  -- all of the reply is written
  pub record ServesBy (client : List ℕ) (roles : List (List ℕ × Role)) (before : T) (bytes : List ℕ) (after : T) (old new : Option (List ℕ)) : Type 0 where
    pub out : List ℕ
    pub served : IsServedBy client roles before bytes out after
    pub written : Appends old new out

  -- a part of the reply is written, from its front
  pub record ServesPartBy (client : List ℕ) (roles : List (List ℕ × Role)) (before : T) (bytes : List ℕ) (after : T) (old new : Option (List ℕ)) : Type 0 where
    pub out : List ℕ
    pub served : IsServedBy client roles before bytes out after
    pub written : WritesPart old new out
