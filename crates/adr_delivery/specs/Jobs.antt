-- What is to be sent of an entry that was leased.
use Rattle.std.specs.Prelude.{ℕ, List, ◌++◌, codes, Option, Some, None}
use Rattle.adr_delivery.specs.declared.addressee.Addressee.{Addressee}
use Rattle.adr_delivery.specs.declared.addressee.Addressee.TheVariants.{Utility, Subscriber}
use Rattle.adr_delivery.specs.declared.entry.Entry.{Entry}
use Rattle.adr_delivery.specs.declared.job.Job.{Job}
use Rattle.adr_delivery.specs.declared.job.JobMethod.{JobMethod}
use Rattle.adr_delivery.specs.declared.job.JobMethod.TheVariants.{Post, Put}
use Rattle.adr_delivery.specs.declared.outbox.Outbox.{Outbox}
use Rattle.adr_delivery.specs.Entries.{destination}
use Rattle.adr_delivery.specs.Outboxes.{remote_for}

-- where a report is sent to: a new one, or in the place of the one that the utility gave an id
abbrev pub report_target : Option (List ℕ) → List ℕ
report_target None = codes "/reports"
report_target (Some remote) = codes "/reports/" ++ remote

-- the path of a report at the utility, or the address of the subscription
abbrev pub target_for : Option (List ℕ) → Addressee → List ℕ
target_for remote (Utility event) = report_target remote
target_for remote (Subscriber subscription address token) = address

-- the token for the address of the subscription, where it has one, and none for the utility
abbrev pub token_for : Addressee → Option (List ℕ)
token_for (Utility event) = None
token_for (Subscriber subscription address token) = token

-- PUT where the utility gave the report an id, else POST
abbrev pub method_for : Option (List ℕ) → JobMethod
method_for None = Post
method_for (Some remote) = Put

-- a notification is posted to its address; a report is put in the place of the one that the utility gave an id, and else posted
abbrev pub job_for : Option (List ℕ) → ℕ × Entry → Job
job_for remote e = record {
  entry = e.0;
  lease = e.1.delivery.leases;
  destination = destination e.1.addressee;
  method = method_for remote;
  target = target_for remote e.1.addressee;
  token = token_for e.1.addressee;
  body = e.1.body;
}

-- what is to be sent of an entry that was leased, with the id that the utility has of the same event, where it has
-- one
abbrev pub job_of : Outbox → ℕ × Entry → Job
job_of o e = job_for (remote_for e.1.addressee o) e
