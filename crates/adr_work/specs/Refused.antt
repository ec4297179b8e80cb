-- Which refusals end a round.
use Rattle.std.specs.Prelude.{◌≡◌, ℕ, ◌⊎◌}
use Rattle.adr_text.specs.declared.refusal.Refusal.{Refusal}
use Rattle.adr_text.specs.declared.refusal.Refusal.TheVariants.{OutOfMemory}
use Rattle.adr_machine.specs.declared.command.Command.{Command}
use Rattle.adr_book.specs.Refused.{MayRefuse}

-- a step may be refused so, with some pass
abbrev pub MayRefuseSome : Type 0 → Command → Refusal → Type 0
MayRefuseSome may_refuse command refusal = (seen : ℕ) × MayRefuse may_refuse seen command refusal

-- a round ends for want of memory, or by the refusal of a command
abbrev pub EndsBy : (Command → Refusal → Type 0) → Refusal → Type 0
EndsBy refuses refusal = (refusal ≡ OutOfMemory) ⊎ ((command : Command) × refuses command refusal)
