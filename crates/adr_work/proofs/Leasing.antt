-- Leases that were asked for.
use Rattle.std.proofs.Common.{◌≡◌, List, [], ◌∷◌, ◌++◌, Option, Result, Ok, Err, refl, sym, append-nil}
use Rattle.std.proofs.lemmas.List.{map-append}
use Rattle.adr_text.specs.declared.refusal.Refusal.{Refusal}
use Rattle.adr_delivery.specs.declared.job.Job.{Job}
use Rattle.adr_queries.specs.declared.answer.Answer.{Answer}
use Rattle.adr_machine.specs.declared.command.Command.TheVariants.{Lease}
use Rattle.adr_lock.specs.Steps.{Step}
use Rattle.adr_work.specs.Leased.{job_in, lease_with, LeasesOnce, OnlyLeases}
use Rattle.adr_work.proofs.Behind.{behind}

-- it was answered
pub leases_ok : (before after : List Step) (answer : Answer) (job : Option Job) → after ≡ before ++ (Lease, Ok answer) ∷ [] → job ≡ job_in answer → LeasesOnce before after (Ok job)
leases_ok before after answer job steps is = record { answered = Ok answer; steps = steps; gives = (answer, refl, is) }

-- nothing is said of a job
pub leases_err : (before after : List Step) (answered : Result Answer Refusal) (refusal : Refusal) → after ≡ before ++ (Lease, answered) ∷ [] → LeasesOnce before after (Err refusal)
leases_err before after answered refusal steps = record { answered = answered; steps = steps; gives = tt }

-- none
pub leases_none : (before : List Step) → OnlyLeases before before
leases_none before = record { answers = []; steps = sym (append-nil before) }

-- these, and then those
pub leases_both : (before between after : List Step) → OnlyLeases before between → OnlyLeases between after → OnlyLeases before after
leases_both before between after a b = record {
  answers = a.answers ++ b.answers;
  steps = behind before _ _ a.steps b.steps (map-append lease_with a.answers b.answers);
}

-- these, and then one
pub leases_more : (before between after : List Step) (result : Result (Option Job) Refusal) → OnlyLeases before between → LeasesOnce between after result → OnlyLeases before after
leases_more before between after result a once = leases_both before between after a (record { answers = once.answered ∷ []; steps = once.steps })
