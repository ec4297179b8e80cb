-- The texts of answers, and the reply to what was asked.
use Rattle.std.specs.Prelude.{ℕ, Bool, true, false, List, [], ◌∷◌, ◌++◌, codes, Result, Ok, Err, if◌then◌else◌}
use Rattle.std.specs.List.{flat_map}
use Rattle.adr_text.specs.declared.refusal.Refusal.{Refusal}
use Rattle.adr_written.specs.Objects.{program_text, ven_text, resource_text, share_text}
use Rattle.adr_written.specs.Counts.{counts_text}
use Rattle.adr_written.specs.WrittenFrozen.{frozen_text}
use Rattle.adr_written.specs.WrittenReports.{report_text, rollup_text}
use Rattle.adr_written.specs.WrittenSubs.{sub_text}
use Rattle.adr_event_text.specs.Kept.{kept_event_text}
use Rattle.adr_machine.specs.declared.command.Command.{Command}
use Rattle.adr_machine.specs.declared.command.Command.TheVariants.{VenAdd, ResourceAdd, ReportPost, SubPost}
use Rattle.adr_queries.specs.declared.answer.Object.{Object}
use Rattle.adr_queries.specs.declared.answer.Object.TheVariants.{Program, Event, Report, Ven, Resource, Share, Sub}
use Rattle.adr_queries.specs.declared.answer.Answer.{Answer}
use Rattle.adr_queries.specs.declared.answer.Answer.TheVariants as answer
use Rattle.adr_reply.specs.Replies.{ReplyParts}
use Rattle.adr_reply.specs.Problems.{problem_reply}
use Rattle.adr_reply.specs.declared.reply.Extra.TheVariants.{Nothing}
use Rattle.adr_reply.specs.declared.problem.Problem.TheVariants.{Refused}
use Rattle.adr_asked.specs.declared.asked.Asked.{Asked}
use Rattle.adr_asked.specs.declared.asked.Asked.TheVariants as asked

-- an object
abbrev pub object_text : Object → List ℕ
object_text (Program p) = program_text p
object_text (Event e) = kept_event_text e
object_text (Report r) = report_text r
object_text (Ven v) = ven_text v
object_text (Resource r) = resource_text r
object_text (Share s) = share_text s
object_text (Sub s) = sub_text s

-- the objects behind the first, each behind a comma
abbrev pub behind_commas : List Object → List ℕ
behind_commas objects = flat_map (λ o. codes "," ++ object_text o) objects

-- a list of objects, in brackets
abbrev pub list_text : List Object → List ℕ
list_text [] = codes "[]"
list_text (o ∷ objects) = codes "[" ++ object_text o ++ behind_commas objects ++ codes "]"

-- the body of an answer; a count of changes is told to nobody, nor is what a scan missed, nor what is to be sent; a roll-up stands under the node's name and the id of its event
unfoldable pub answer_text : List ℕ → Answer → List ℕ
answer_text client answer.Done = codes "{}"
answer_text client (answer.Probes keys) = codes "{}"
answer_text client (answer.Changes n) = codes "{}"
answer_text client (answer.Object o) = object_text o
answer_text client (answer.List objects) = list_text objects
answer_text client (answer.Share s) = share_text s
answer_text client (answer.Frozen f) = frozen_text f
answer_text client (answer.Counts counts) = counts_text counts
answer_text client (answer.Job job) = codes "{}"
answer_text client (answer.Rollup event rollup) = rollup_text (record { client = client; event = event; rollup = rollup })

-- whether a command posts an object: a ven, a resource, a report or a subscription that is new
abbrev pub posts : Command → Bool
posts (VenAdd role ven) = true
posts (ResourceAdd role ven resource) = true
posts (ReportPost role report) = true
posts (SubPost role sub) = true
posts _ = false

-- 201 where an object was posted, else 200
abbrev pub status_for : Asked → ℕ
status_for (asked.Command c) = if posts c then 201 else 200
status_for _ = 200

-- what is replied to what was asked, by a node of that name
abbrev pub reply_of : List ℕ → Asked → Result Answer Refusal → ReplyParts
reply_of client a (Ok answer) = record { status = status_for a; extra = Nothing; body = answer_text client answer }
reply_of client a (Err refusal) = problem_reply (Refused refusal)
