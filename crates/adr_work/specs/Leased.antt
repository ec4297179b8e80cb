-- The job that a lease was answered with.
use Rattle.std.specs.Prelude.{◌≡◌, List, [], ◌∷◌, ◌++◌, map, Option, None, Result, Ok, IfOk}
use Rattle.adr_text.specs.declared.refusal.Refusal.{Refusal}
use Rattle.adr_delivery.specs.declared.job.Job.{Job}
use Rattle.adr_queries.specs.declared.answer.Answer.{Answer}
use Rattle.adr_queries.specs.declared.answer.Answer.TheVariants as answer
use Rattle.adr_machine.specs.declared.command.Command.TheVariants.{Lease}
use Rattle.adr_lock.specs.Steps.{Step}

-- the job in an answer, where there is one
abbrev pub job_in : Answer → Option Job
job_in (answer.Job job) = job
job_in _ = None

-- one lease was asked for, and the job is the one that it was answered with
pub record LeasesOnce (before after : List Step) (result : Result (Option Job) Refusal) : Type 0 where
  pub answered : Result Answer Refusal
  pub steps : after ≡ before ++ (Lease, answered) ∷ []
  pub gives : IfOk result (λ job. (a : Answer) × (answered ≡ Ok a) × (job ≡ job_in a))

-- a lease, and what came of it
abbrev pub lease_with : Result Answer Refusal → Step
lease_with answered = (Lease, answered)

-- leases were asked for, and no other step
pub record OnlyLeases (before after : List Step) : Type 0 where
  pub answers : List (Result Answer Refusal)
  pub steps : after ≡ before ++ map lease_with answers
