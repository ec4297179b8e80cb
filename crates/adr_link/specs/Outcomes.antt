-- What comes of a job that was sent.
use Rattle.std.specs.Prelude.{ℕ, ◌==◌, nat_le, Bool, true, false, not, ◌&&◌, List, codes, Option, None, Result, Ok, Err, if◌then◌else◌}
use Rattle.std.specs.Result.{result_ok}
use Rattle.serde_json.specs.Data.{Data}
use Rattle.adr_text.specs.Refusals.{◌>>=◌}
use Rattle.adr_text.specs.Fields.{value_in, member_of, required, id_in}
use Rattle.adr_text.specs.declared.fault.Fault.{Fault}
use Rattle.adr_delivery.specs.declared.job.Job.{Job}
use Rattle.adr_delivery.specs.declared.job.JobMethod.{JobMethod}
use Rattle.adr_delivery.specs.declared.job.JobMethod.TheVariants.{Post, Put}
use Rattle.adr_link.specs.declared.reply.HttpReply.{HttpReply}
use Rattle.adr_link.specs.declared.reply.LinkFault.{LinkFault}
use Rattle.adr_link.specs.declared.outcome.Outcome.{Outcome}
use Rattle.adr_link.specs.declared.outcome.Outcome.TheVariants.{Sent, Failed}
use Rattle.adr_link.specs.Targets.{is_for_utility}

-- the method is POST, and not PUT
abbrev pub is_post : JobMethod → Bool
is_post Post = true
is_post Put = false

-- a new report for the utility
abbrev pub is_new_report : Job → Bool
is_new_report job = is_for_utility job && is_post job.method

-- a report in the place of one that the utility has
abbrev pub is_newer_report : Job → Bool
is_newer_report job = is_for_utility job && not (is_post job.method)

-- from 200 to 299
abbrev pub is_success : ℕ → Bool
is_success status = nat_le 200 status && nat_le status 299

-- the id of an object
abbrev pub object_id_in : Data → Result (List ℕ) Fault
object_id_in d = required (member_of (codes "id") d) id_in

-- the same, of the object that bytes are, where they are one that has an id
abbrev pub id_told : List ℕ → Option (List ℕ)
id_told body = result_ok (value_in body >>= object_id_in)

-- the utility's id of a new report, where a reply tells it
abbrev pub remote_told : Job → List ℕ → Option (List ℕ)
remote_told job body = if is_new_report job then id_told body else None

-- what a reply tells of a job: the utility's id is to be forgotten where the report of that id is not there
abbrev pub outcome_told : Job → HttpReply → Outcome
outcome_told job reply =
    if is_success reply.status then Sent (remote_told job reply.body)
    else Failed (is_newer_report job && reply.status == 404)

-- what comes of a job: what the reply tells, and a failure where none came
abbrev pub outcome_of : Job → Result HttpReply LinkFault → Outcome
outcome_of job (Ok reply) = outcome_told job reply
outcome_of job (Err fault) = Failed false
