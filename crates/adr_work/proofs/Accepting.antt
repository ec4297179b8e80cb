-- Steps that are accepted, one more.
use Rattle.std.proofs.Common.{◌≡◌, List, [], ◌∷◌, ◌++◌, Ok, Err, ap, append-nil, ◌∙◌}
use Rattle.std.proofs.lemmas.List.Elements.{filter_map-append}
use Rattle.adr_text.specs.declared.refusal.Refusal.{Refusal}
use Rattle.adr_queries.specs.declared.answer.Answer.{Answer}
use Rattle.adr_machine.specs.declared.command.Command.{Command}
use Rattle.adr_lock.specs.Steps.{Step}
use Rattle.adr_work.specs.Tellings.{accepted_one, accepted, with_told}

-- one more that is accepted
accepted_ok : (steps : List Step) (command : Command) (answer : Answer) → accepted (steps ++ (command, Ok answer) ∷ []) ≡ accepted steps ++ (command, answer) ∷ []
accepted_ok steps command answer = filter_map-append (λ (s : Step). accepted_one s.0 s.1) steps ((command, Ok answer) ∷ [])

-- one more that is refused
accepted_err : (steps : List Step) (command : Command) (refusal : Refusal) → accepted (steps ++ (command, Err refusal) ∷ []) ≡ accepted steps
accepted_err steps command refusal = filter_map-append (λ (s : Step). accepted_one s.0 s.1) steps ((command, Err refusal) ∷ []) ∙ append-nil (accepted steps)

-- what is kept of a step that was accepted
pub told_alone : (steps after : List Step) (command : Command) (answer : Answer) → after ≡ steps ++ (command, Ok answer) ∷ []
    → accepted after ≡ with_told (accepted steps) ((command, answer) ∷ [])
told_alone steps after command answer asked = ap accepted asked ∙ accepted_ok steps command answer

-- and of one that was refused: nothing
pub refused_alone : (steps after : List Step) (command : Command) (refusal : Refusal) → after ≡ steps ++ (command, Err refusal) ∷ [] → accepted after ≡ accepted steps
refused_alone steps after command refusal asked = ap accepted asked ∙ accepted_err steps command refusal
