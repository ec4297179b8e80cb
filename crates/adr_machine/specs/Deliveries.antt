-- What a command does with an entry of the outbox.
use Rattle.std.specs.Prelude.{ℕ, Option, option_map, Result, Ok}
use Rattle.adr_text.specs.Refusals.{◌>>=◌}
use Rattle.adr_text.specs.declared.refusal.Refusal.{Refusal}
use Rattle.adr_delivery.specs.declared.entry.Entry.{Entry}
use Rattle.adr_delivery.specs.declared.outbox.Outbox.{Outbox}
use Rattle.adr_delivery.specs.Jobs.{job_of}
use Rattle.adr_delivery.specs.Outboxes.{lease_next, sent, failed}
use Rattle.adr_state.specs.declared.limits.Limits.{Limits}
use Rattle.adr_queries.specs.declared.answer.Answer.{Answer}
use Rattle.adr_queries.specs.declared.answer.Answer.TheVariants as answer
use Rattle.adr_machine.specs.declared.command.Command.{Command}
use Rattle.adr_machine.specs.declared.command.Command.TheVariants.{Lease, Sent, Failed}

-- what is to be sent of an entry that was leased, where one was
abbrev pub job_told : Outbox → Option (ℕ × Entry) → Answer
job_told o leased = answer.Job (option_map (job_of o) leased)

-- the next entry that may leave is leased, and what is to be sent of it is answered, where there is one
abbrev pub leased : Limits → ℕ → Outbox → Result (Answer × Outbox) Refusal
leased limits now o = lease_next limits.serial now o >>= λ l. Ok (job_told l.1 l.0, l.1)

-- it was done, and the outbox is then this
abbrev pub done : Result Outbox Refusal → Result (Answer × Outbox) Refusal
done outbox = outbox >>= λ o. Ok (answer.Done, o)

-- what a command does with the outbox, where it is about an entry, and its answer
abbrev pub delivered : Limits → ℕ → Outbox → Command → Result (Answer × Outbox) Refusal
delivered limits now o Lease = leased limits now o
delivered limits now o (Sent entry lease remote) = done (sent entry lease remote o)
delivered limits now o (Failed entry lease forget) = done (failed now entry lease forget o)
delivered limits now o _ = Ok (answer.Done, o)
