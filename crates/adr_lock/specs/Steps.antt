-- The steps that somebody asks for under the lock.
use Rattle.std.specs.Prelude.{List, [], ◌∷◌, ◌++◌, Result}
use Rattle.adr_text.specs.declared.refusal.Refusal.{Refusal}
use Rattle.adr_queries.specs.declared.answer.Answer.{Answer}
use Rattle.adr_machine.specs.declared.command.Command.{Command}
use Rattle.adr_lock.specs.declared.call.Call.{Call}
use Rattle.adr_lock.specs.declared.call.Call.TheVariants as call

-- a command, and what came of it
abbrev pub Step : Type 0
Step = Command × Result Answer Refusal

-- the steps with a call more: a look is none
abbrev pub with_call : List Step → Call → Result Answer Refusal → List Step
with_call steps (call.Step command) outcome = steps ++ (command.now, outcome) ∷ []
with_call steps (call.Look query) outcome = steps
