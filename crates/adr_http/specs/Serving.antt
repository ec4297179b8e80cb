-- What is replied to a request, and the state behind it.
use Rattle.std.specs.Prelude.{◌≡◌, ◌⊎◌, ℕ, true, List, Option, Result, Ok, Err}
use Rattle.std.specs.Io.KnownBytes.{Appends}
use Rattle.adr_text.specs.declared.refusal.Refusal.{Refusal}
use Rattle.adr_text.specs.declared.refusal.Refusal.TheVariants.{OutOfMemory, Store}
use Rattle.adr_wire.specs.Calls.{WritesPart}
use Rattle.adr_wire.specs.declared.end.ReadEnd.{ReadEnd}
use Rattle.adr_wire.specs.declared.end.ReadEnd.TheVariants as end
use Rattle.adr_wire.specs.declared.end.MessageFault.{MessageFault}
use Rattle.adr_wire.specs.declared.end.MessageFault.TheVariants as fault
use Rattle.adr_state.specs.declared.state.State.{State}
use Rattle.adr_state.specs.declared.limits.Settings.{Settings}
use Rattle.adr_queries.specs.declared.role.Role.{Role}
use Rattle.adr_queries.specs.declared.answer.Answer.{Answer}
use Rattle.adr_request.specs.Requests.{RequestParts, IsRequest}
use Rattle.adr_reply.specs.Replies.{reply_bytes}
use Rattle.adr_reply.specs.Problems.{problem_reply}
use Rattle.adr_reply.specs.declared.problem.Problem.{Problem}
use Rattle.adr_reply.specs.declared.problem.Problem.TheVariants as problem
use Rattle.adr_asked.specs.declared.asked.Asked.{Asked}
use Rattle.adr_asked.specs.Replies.{reply_of}
use Rattle.adr_asked.specs.Turns.{asked_step, asks_desk, Turn, at_once, turn_by, Takes}
use Rattle.adr_http.specs.Plans.{plan_of}
use Rattle.adr_http.specs.declared.outgoing.Outgoing.{Outgoing}
use Rattle.adr_http.specs.declared.outgoing.Outgoing.TheVariants.{Bytes, Memory}

-- the bytes of the reply that tells a problem
abbrev pub problem_bytes : Problem → List ℕ
problem_bytes problem = reply_bytes (problem_reply problem)

-- the bytes of the reply that tells a refusal
abbrev pub want_bytes : Refusal → List ℕ
want_bytes refusal = problem_bytes (problem.Refused refusal)

-- the bytes of the reply to what was asked, by a node of that name
abbrev pub outcome_bytes : List ℕ → Asked → Result Answer Refusal → List ℕ
outcome_bytes client a outcome = reply_bytes (reply_of client a outcome)

-- the turn of what is planned: its reply, the state behind it, and whether the desk is asked
abbrev pub plan_turn : Settings → State → ℕ → Result Asked Problem → Turn
plan_turn settings s now (Ok a) = turn_by (outcome_bytes settings.client a) s (asked_step settings s now a) (asks_desk a)
plan_turn settings s now (Err problem) = at_once (problem_bytes problem) s

-- the turn of a request
abbrev pub request_turn : Settings → List (List ℕ × Role) → State → ℕ → RequestParts → Turn
request_turn settings roles s now r = plan_turn settings s now (plan_of roles r)

-- a reply that was built, over a desk whose store may refuse, or that has none that may
pub data IsBuilt (may_refuse : Type 0) (s : State) (turn : Turn) (out : List ℕ) (t : State) : Type 0 where
  -- that of the turn, and the state of its step
  of_turn : out ≡ turn.text → t ≡ turn.state → IsBuilt may_refuse s turn out t
  -- want of memory in its place, and no step
  of_memory : out ≡ want_bytes OutOfMemory → t ≡ s → IsBuilt may_refuse s turn out t
  -- the store's refusal in its place, where the desk is asked and its store may refuse, and no step
  of_store : may_refuse → turn.asks ≡ true → out ≡ want_bytes Store → t ≡ s → IsBuilt may_refuse s turn out t

-- the problem of bytes that are no request: malformed, too large, or of a coding that isn't known
abbrev pub fault_problem : MessageFault → Problem
fault_problem fault.Malformed = problem.BadRequest
fault_problem fault.TooLarge = problem.TooLarge
fault_problem fault.NoCoding = problem.NoCoding

-- the turn of what was read: bytes that are no request take no step
abbrev pub reading_turn : Settings → List (List ℕ × Role) → State → ℕ → Result RequestParts MessageFault → Turn
reading_turn settings roles s now (Ok r) = request_turn settings roles s now r
reading_turn settings roles s now (Err f) = at_once (problem_bytes (fault_problem f)) s

-- what is told of bytes that are no request: their problem, or want of memory in its place
abbrev pub IsTold : List ℕ → MessageFault → Type 0
IsTold out f = (out ≡ problem_bytes (fault_problem f)) ⊎ (out ≡ want_bytes OutOfMemory)

-- what is told where no request was read: nothing, where a read failed
abbrev pub IsToldAtEnd : List ℕ → ReadEnd → Type 0
IsToldAtEnd out (end.Bytes f) = IsTold out f
IsToldAtEnd out end.Reader = ⊥
IsToldAtEnd out end.OutOfMemory = out ≡ want_bytes OutOfMemory

-- what is replied to bytes, and the state behind it, over a desk whose store may refuse, or that has none that may
pub data IsServed (may_refuse : Type 0) (settings : Settings) (roles : List (List ℕ × Role)) (s : State) (now : ℕ) (bytes out : List ℕ) (t : State) : Type 0 where
  -- the reply to what the bytes are read as, and the state of its step
  as_read : (read : Result RequestParts MessageFault) → IsRequest bytes read → Takes may_refuse want_bytes s (reading_turn settings roles s now read) out t → IsServed may_refuse settings roles s now bytes out t
  -- memory ran out while they were read, and no step is taken
  not_read : out ≡ want_bytes OutOfMemory → t ≡ s → IsServed may_refuse settings roles s now bytes out t

-- all of the reply is written
pub record Serves (may_refuse : Type 0) (settings : Settings) (roles : List (List ℕ × Role)) (s : State) (now : ℕ) (bytes : List ℕ) (t : State) (old new : Option (List ℕ)) : Type 0 where
  pub out : List ℕ
  pub served : IsServed may_refuse settings roles s now bytes out t
  pub written : Appends old new out

-- a part of the reply is written, from its front
pub record ServesPart (may_refuse : Type 0) (settings : Settings) (roles : List (List ℕ × Role)) (s : State) (now : ℕ) (bytes : List ℕ) (t : State) (old new : Option (List ℕ)) : Type 0 where
  pub out : List ℕ
  pub served : IsServed may_refuse settings roles s now bytes out t
  pub written : WritesPart old new out

-- ---- as the code keeps it

-- the bytes that are to be written: those that were built, or those that tell want of memory
abbrev pub outgoing_bytes : Outgoing → List ℕ
outgoing_bytes (Bytes v) = v.items
outgoing_bytes Memory = want_bytes OutOfMemory
