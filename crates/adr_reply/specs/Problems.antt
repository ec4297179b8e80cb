-- Problems: why a request has no answer, and what is told of it.
use Rattle.std.specs.Prelude.{◌≡◌, ℕ, List, codes, Result, Ok, Err}
use Rattle.adr_text.specs.Refusals.{status_of}
use Rattle.adr_text.specs.declared.refusal.Refusal.{Refusal}
use Rattle.adr_text.specs.declared.refusal.Refusal.TheVariants.{OutOfMemory}
use Rattle.adr_written.specs.Objects.{problem_text}
use Rattle.adr_reply.specs.declared.problem.Problem.{Problem}
use Rattle.adr_reply.specs.declared.problem.Problem.TheVariants.{Refused, BadRequest, TooLarge, NoCoding, Unauthorized, NoPath, NoMethod}
use Rattle.adr_reply.specs.declared.reply.Extra.{Extra}
use Rattle.adr_reply.specs.declared.reply.Extra.TheVariants.{Nothing, Challenge, Allow}
use Rattle.adr_reply.specs.Replies.{ReplyParts}

-- the status of a problem: that of its refusal, or 400, 413, 501, 401, 404 or 405
abbrev pub problem_status : Problem → ℕ
problem_status (Refused refusal) = status_of refusal
problem_status BadRequest = 400
problem_status TooLarge = 413
problem_status NoCoding = 501
problem_status Unauthorized = 401
problem_status NoPath = 404
problem_status (NoMethod methods) = 405

-- the field that a reply has besides: a challenge where the token isn't known, the methods where this one isn't there
abbrev pub problem_extra : Problem → Extra
problem_extra Unauthorized = Challenge
problem_extra (NoMethod methods) = Allow methods
problem_extra _ = Nothing

-- a problem, in the manner of RFC 7807
abbrev pub problem_body : Problem → List ℕ
problem_body (Refused refusal) = problem_text refusal
problem_body BadRequest = codes "{\"detail\":\"malformed request\",\"status\":400,\"title\":\"BadRequest\"}"
problem_body TooLarge = codes "{\"detail\":\"request too large\",\"status\":413,\"title\":\"TooLarge\"}"
problem_body NoCoding = codes "{\"detail\":\"transfer coding not known\",\"status\":501,\"title\":\"NoCoding\"}"
problem_body Unauthorized = codes "{\"detail\":\"token not known\",\"status\":401,\"title\":\"Unauthorized\"}"
problem_body NoPath = codes "{\"detail\":\"no such path\",\"status\":404,\"title\":\"NoPath\"}"
problem_body (NoMethod methods) = codes "{\"detail\":\"method not allowed here\",\"status\":405,\"title\":\"NoMethod\"}"

-- the reply that tells it
abbrev pub problem_reply : Problem → ReplyParts
problem_reply problem = record { status = problem_status problem; extra = problem_extra problem; body = problem_body problem }

-- the reply where memory ran out
abbrev pub memory_problem : ReplyParts
memory_problem = problem_reply (Refused OutOfMemory)

-- ---- what a call that can run out of memory gives

-- a reading whose refusal is told as a problem
abbrev pub as_problem : {A : Type 0} → Result A Refusal → Result A Problem
as_problem (Ok x) = Ok x
as_problem (Err refusal) = Err (Refused refusal)

-- the problem is what reading gives, or memory ran out
abbrev pub FailsBy : {Y : Type 0} → Problem → Result Y Problem → Type 0
FailsBy (Refused OutOfMemory) reading = Unit {0}
FailsBy problem reading = reading ≡ Err problem

-- what a function returned, seen by view, is what reading gives, unless memory ran out
abbrev pub Tells : {X Y : Type 0} → (X → Y) → Result X Problem → Result Y Problem → Type 0
Tells view (Ok x) reading = reading ≡ Ok (view x)
Tells view (Err e) reading = FailsBy e reading
