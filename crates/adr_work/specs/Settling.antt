-- What a sender tells the book.
use Rattle.adr_delivery.specs.declared.job.Job.{Job}
use Rattle.adr_link.specs.declared.outcome.Outcome.{Outcome}
use Rattle.adr_link.specs.declared.outcome.Outcome.TheVariants as outcome
use Rattle.adr_machine.specs.declared.command.Command.{Command}
use Rattle.adr_machine.specs.declared.command.Command.TheVariants.{Sent, Failed}

-- the command that settles a job by what came of it, under the job's own entry and lease
abbrev pub settlement_of : Job → Outcome → Command
settlement_of job (outcome.Sent remote) = Sent job.entry job.lease remote
settlement_of job (outcome.Failed forget) = Failed job.entry job.lease forget
