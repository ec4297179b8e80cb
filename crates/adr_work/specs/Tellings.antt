-- What those who are told commands keep of them.
use Rattle.std.specs.Prelude.{List, ◌++◌, map, Option, None, Some, Result, Ok, Err}
use Rattle.std.specs.List.{filter_map}
use Rattle.adr_text.specs.declared.refusal.Refusal.{Refusal}
use Rattle.adr_queries.specs.declared.answer.Answer.{Answer}
use Rattle.adr_machine.specs.declared.command.Command.{Command}
use Rattle.adr_lock.specs.Steps.{Step}

-- a command that was accepted, and what it was answered
abbrev pub Told : Type 0
Told = Command × Answer

-- a step that was accepted
abbrev pub accepted_one : Command → Result Answer Refusal → Option Told
accepted_one command (Ok answer) = Some (command, answer)
accepted_one command (Err refusal) = None

-- of some steps those that were accepted
abbrev pub accepted : List Step → List Told
accepted steps = filter_map (λ s. accepted_one s.0 s.1) steps

-- the commands alone, in their order, of what was told
abbrev pub commands_of : List Told → List Command
commands_of told = map (λ t. t.0) told

-- what those who are told keep: each command that they accepted, with its answer
abbrev pub Memory : Type 0
Memory = List Told

-- after these further commands
abbrev pub with_told : Memory → List Told → Memory
with_told m told = m ++ told
