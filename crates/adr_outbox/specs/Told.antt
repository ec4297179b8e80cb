-- What calls on the outbox tell.
use Rattle.std.specs.Prelude.{◌≡◌, ℕ, length, Option, option_map, Result, Ok}
use Rattle.adr_text.specs.Refusals.{◌>>=◌}
use Rattle.adr_text.specs.declared.refusal.Refusal.{Refusal}
use Rattle.adr_objects.specs.declared.counts.OutboxCounts.{OutboxCounts}
use Rattle.adr_delivery.specs.declared.job.Job.{Job}
use Rattle.adr_delivery.specs.declared.outbox.Outbox.{Outbox}
use Rattle.adr_delivery.specs.Jobs.{job_of}
use Rattle.adr_delivery.specs.Outboxes.{lease_next, counts_of}
use Rattle.adr_db.specs.Kept.{Kept}
use Rattle.adr_db.specs.Images.{outbox_of}

-- the next entry is leased, and told as what is to be sent of it
abbrev pub job_leased : ℕ → ℕ → Outbox → Result (Option Job × Outbox) Refusal
job_leased most now o = lease_next most now o >>= λ l. Ok (option_map (job_of l.1) l.0, l.1)

-- what became of an entry is the outbox then, and nothing is told
abbrev pub done : Result Outbox Refusal → Result (Unit {0} × Outbox) Refusal
done outbox = outbox >>= λ o. Ok (tt, o)

-- the counts of the outbox that is kept, where the numbers that are kept say how many entries wait
abbrev pub AreItsCounts : Kept → OutboxCounts → Type 0
AreItsCounts kept counts = kept.meta.pending ≡ length kept.entries → counts ≡ counts_of (outbox_of kept.meta kept)
