-- What is printed of answers, and of refusals.
use Rattle.std.specs.Prelude.{ℕ, ◌==◌, List, ◌++◌, codes, bytes_eq, Option, None, Some, Result, Ok, Err, if◌then◌else◌}
use Rattle.std.specs.List.{flat_map}
use Rattle.std.specs.Fmt.{decimal}
use Rattle.adr_text.specs.Refusals.{number_of, title_of}
use Rattle.adr_text.specs.declared.refusal.Refusal.{Refusal}
use Rattle.adr_written.specs.Ids.{sub_id}
use Rattle.adr_objects.specs.declared.kind.Kind.{Kind}
use Rattle.adr_objects.specs.declared.kind.Kind.TheVariants as kind
use Rattle.adr_delivery.specs.declared.job.Job.{Job}
use Rattle.adr_delivery.specs.declared.job.JobMethod.{JobMethod}
use Rattle.adr_delivery.specs.declared.job.JobMethod.TheVariants.{Post, Put}
use Rattle.adr_state.specs.declared.keys.MirrorKey.{MirrorKey}
use Rattle.adr_queries.specs.declared.answer.Answer.{Answer}
use Rattle.adr_queries.specs.declared.answer.Answer.TheVariants as answer
use Rattle.adr_reply.specs.Replies.{ReplyParts}
use Rattle.adr_reply.specs.Problems.{problem_reply}
use Rattle.adr_reply.specs.declared.problem.Problem.{Problem}
use Rattle.adr_reply.specs.declared.problem.Problem.TheVariants.{Refused}
use Rattle.adr_asked.specs.declared.asked.Asked.{Asked}
use Rattle.adr_asked.specs.declared.asked.Asked.TheVariants as asked
use Rattle.adr_asked.specs.Replies.{reply_of}

-- a reply as a line: `STATUS BODY`
unfoldable pub reply_line : ReplyParts → List ℕ
reply_line reply = decimal reply.status ++ (codes " " ++ (reply.body ++ codes "\n"))

-- `changes N skipped M`
unfoldable pub changes_line : ℕ → ℕ → List ℕ
changes_line changes skipped = codes "changes " ++ (decimal changes ++ (codes " skipped " ++ (decimal skipped ++ codes "\n")))

-- what a line of another form prints
unfoldable pub bad_line : List ℕ
bad_line = codes "bad line\n"

-- a refused step of the node: `refused N TITLE`
unfoldable pub refused_line : Refusal → List ℕ
refused_line r = codes "refused " ++ (decimal (number_of r) ++ (codes " " ++ (title_of r ++ codes "\n")))

-- `changes N`
unfoldable pub count_line : ℕ → List ℕ
count_line changes = codes "changes " ++ (decimal changes ++ codes "\n")

-- what a step of the node prints that has nothing else to tell
unfoldable pub done_line : List ℕ
done_line = codes "done\n"

-- `programs` or `events`
abbrev pub kind_word : Kind → List ℕ
kind_word kind.Program = codes "programs"
kind_word kind.Event = codes "events"

-- ` programs/ID` or ` events/ID`
abbrev pub key_text : MirrorKey → List ℕ
key_text key = codes " " ++ kind_word key.kind ++ codes "/" ++ key.id

abbrev pub keys_text : List MirrorKey → List ℕ
keys_text keys = flat_map key_text keys

-- `probes`, and each key
unfoldable pub probes_line : List MirrorKey → List ℕ
probes_line keys = codes "probes" ++ keys_text keys ++ codes "\n"

-- where a job goes to: the subscription of a number, or the utility, which has 0
unfoldable pub destination_word : ℕ → List ℕ
destination_word destination = if destination == 0 then codes "upstream" else sub_id destination

-- `POST` or `PUT`
unfoldable pub method_word : JobMethod → List ℕ
method_word Post = codes "POST"
method_word Put = codes "PUT"

-- `DEST METHOD TARGET`
unfoldable pub sending_words : Job → List ℕ
sending_words job = destination_word job.destination ++ (codes " " ++ (method_word job.method ++ (codes " " ++ job.target)))

-- `job ENTRY LEASE DEST METHOD TARGET BODY`; a token is not printed
unfoldable pub job_line : Job → List ℕ
job_line job =
    codes "job " ++ (decimal job.entry ++ (codes " " ++ (decimal job.lease ++ (codes " " ++ (sending_words job ++ (codes " " ++ (job.body ++ codes "\n")))))))

-- what is printed where nothing is to be sent
unfoldable pub no_job_line : List ℕ
no_job_line = codes "job none\n"

-- what is to be sent next, where something is
abbrev pub next_line : Option Job → List ℕ
next_line None = no_job_line
next_line (Some job) = job_line job

-- how many keys changed; of a page also how many elements were skipped
abbrev pub count_text : ℕ → Asked → List ℕ
count_text n (asked.Page command skipped) = changes_line n skipped
count_text n _ = count_line n

-- what an answer to a step of the node prints
abbrev pub step_line : Asked → Answer → List ℕ
step_line a (answer.Changes n) = count_text n a
step_line a (answer.Probes keys) = probes_line keys
step_line a (answer.Job job) = next_line job
step_line a _ = done_line

-- what is printed to the node itself where it asks nothing
abbrev pub node_line : Problem → List ℕ
node_line (Refused refusal) = refused_line refusal
node_line problem = reply_line (problem_reply problem)

-- what is printed of a problem: to the node itself, or to a role
unfoldable pub told_by : List ℕ → Problem → List ℕ
told_by role problem = if bytes_eq role (codes "node") then node_line problem else reply_line (problem_reply problem)

-- what is printed of a refusal
abbrev pub want_by : List ℕ → Refusal → List ℕ
want_by role refusal = told_by role (Refused refusal)

-- what is printed to the node itself of the machine's answer
abbrev pub step_text : Asked → Result Answer Refusal → List ℕ
step_text a (Ok answer) = step_line a answer
step_text a (Err refusal) = refused_line refusal

-- what is printed of the machine's answer to what was asked, under the node's name
unfoldable pub outcome_text : List ℕ → List ℕ → Asked → Result Answer Refusal → List ℕ
outcome_text client role a outcome = if bytes_eq role (codes "node") then step_text a outcome else reply_line (reply_of client a outcome)
