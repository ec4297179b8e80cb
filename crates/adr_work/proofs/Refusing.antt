-- Refusals that end a round.
use Rattle.std.proofs.Common.{◌≡◌, inl, inr, sym, subst}
use Rattle.adr_text.specs.declared.refusal.Refusal.{Refusal}
use Rattle.adr_text.specs.declared.refusal.Refusal.TheVariants.{OutOfMemory}
use Rattle.adr_machine.specs.declared.command.Command.{Command}
use Rattle.adr_book.specs.declared.kept.Pass.{Pass}
use Rattle.adr_book.specs.Refused.{MayRefuse}
use Rattle.adr_book.specs.Words.{seen_by}
use Rattle.adr_work.specs.Refused.{EndsBy}

-- memory ran out
pub ends_memory : (refuses : Command → Refusal → Type 0) (refusal : Refusal) → refusal ≡ OutOfMemory → EndsBy refuses refusal
ends_memory refuses refusal is = inl is

-- a command was refused
pub ends_refused : (refuses : Command → Refusal → Type 0) (command : Command) (refusal : Refusal) → refuses command refusal → EndsBy refuses refusal
ends_refused refuses command refusal of = inr (command, of)

-- the same pass is refused the same
pub may_refuse_same : {L : Type 0} (may_refuse : Type 0) (old new : Pass L) (command : Command) (refusal : Refusal)
    → new ≡ old → MayRefuse may_refuse (seen_by old) command refusal → MayRefuse may_refuse (seen_by new) command refusal
may_refuse_same may_refuse old new command refusal same may = subst (λ pass. MayRefuse may_refuse (seen_by pass) command refusal) (sym same) may
