-- The refusals that are listed for each command, in the order in which each is first tested.
use Rattle.std.specs.Prelude.{List, [], ◌∷◌, ◌++◌, if◌then◌else◌}
use Rattle.std.specs.Option.{option_map_or}
use Rattle.adr_text.specs.declared.refusal.Refusal.{Refusal}
use Rattle.adr_text.specs.declared.refusal.Refusal.TheVariants.{OutboxFull, Exhausted, Forbidden}
use Rattle.adr_machine.specs.declared.command.Command.{Command}
use Rattle.adr_machine.specs.Commands.{Traits, traits_of}

-- where the operator alone may give it, who else gives it is refused
abbrev pub gate : Traits → List Refusal
gate t = option_map_or (λ role. Forbidden ∷ []) t.giver []

-- it may want a number of its own, and numbers and room for what is told of it
abbrev pub wants : Traits → List Refusal
wants t = if t.quiet then (if t.draws then Exhausted ∷ [] else []) else Exhausted ∷ OutboxFull ∷ []

-- what a command may be refused by: for who gives it, of its own, and for what it wants
abbrev pub refusals : Traits → List Refusal
refusals t = gate t ++ (t.own ++ wants t)

-- what a command may be refused by
abbrev pub listed : Command → List Refusal
listed command = refusals (traits_of command)
