-- What a trail of accepted commands leads to, and what the machine answers along it.
use Rattle.std.specs.Prelude.{ℕ, List, [], ◌∷◌, map, Option, None, Some, Result, Ok, Err}
use Rattle.std.specs.List.{fold}
use Rattle.adr_text.specs.declared.refusal.Refusal.{Refusal}
use Rattle.adr_state.specs.declared.state.State.{State}
use Rattle.adr_state.specs.declared.limits.Settings.{Settings}
use Rattle.adr_queries.specs.declared.answer.Answer.{Answer}
use Rattle.adr_machine.specs.declared.command.Command.{Command}
use Rattle.adr_machine.specs.Runs.{IsRun, step_at}

-- the last turn that a book can reach, 9·10^15
abbrev pub most_turns : ℕ
most_turns = 9_000_000_000_000_000

-- the state that an accepted step leaves
abbrev pub left_by : Result (Answer × State) Refusal → Option State
left_by (Ok (answer, next)) = Some next
left_by (Err refusal) = None

abbrev pub after : Settings → Option State → ℕ × Command → Option State
after settings None c = None
after settings (Some s) c = left_by (step_at settings s c)

-- the state that a trail leads to, if each of its commands is accepted in turn
abbrev pub led : Settings → State → List (ℕ × Command) → Option State
led settings base trail = fold (after settings) (Some base) trail

-- an answer, and then those of the state that is left; none after a refusal
abbrev pub answer_then : Result (Answer × State) Refusal → (State → List Answer) → List Answer
answer_then (Ok (answer, next)) rest = answer ∷ rest next
answer_then (Err refusal) rest = []

-- the machine's answers to the commands of a trail in turn, up to the first refusal
abbrev pub answers_along : Settings → State → List (ℕ × Command) → List Answer
answers_along settings s [] = []
answers_along settings s (c ∷ cs) = answer_then (step_at settings s c) (λ t. answers_along settings t cs)

-- the machine takes each command of the trail in turn from the base, with these answers, and comes to that state
abbrev pub LeadsTo : Settings → State → List (ℕ × Command) → State → Type 0
LeadsTo settings base trail s = IsRun (step_at settings) base trail (map Ok (answers_along settings base trail)) s
