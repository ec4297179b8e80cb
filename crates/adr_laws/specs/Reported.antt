-- What is reported in a run: each report as it was posted or replaced, and what counts of it in the end.
use Rattle.std.specs.Prelude.{◌≡◌, ◌≢◌, ℕ, ◌+◌, ℤ, Bool, false, ◌&&◌, ◌==◌, List, [], ◌∷◌, ◌++◌, map, filter, fold, Option, Some, None, IsSome, Result, Ok, Err, IfOk, IsOk, if◌then◌else◌}
use Rattle.std.specs.List.{All, AllPairs, Contains, filter_map}
use Rattle.std.specs.Option.{option_map_or}
use Rattle.std.specs.Ordering.{nat_cmp}
use Rattle.std.specs.Str.{bytes_eq}
use Rattle.adr_text.specs.declared.refusal.Refusal.{Refusal}
use Rattle.adr_split.specs.FairSplit.{sum_of_parts}
use Rattle.adr_objects.specs.declared.body.EventBody.{EventBody}
use Rattle.adr_objects.specs.declared.report.ReportBody.{ReportBody}
use Rattle.adr_objects.specs.declared.report.Rollup.{Rollup}
use Rattle.adr_objects.specs.declared.report.RollupInterval.{RollupInterval}
use Rattle.adr_objects.specs.declared.site.ReportIn.{ReportIn}
use Rattle.adr_state.specs.declared.base.Base.{Base}
use Rattle.adr_state.specs.declared.keys.ViewKey.TheVariants as key
use Rattle.adr_state.specs.declared.limits.Settings.{Settings}
use Rattle.adr_state.specs.declared.participants.Participant.{Participant}
use Rattle.adr_state.specs.declared.portfolio.Report.{Report}
use Rattle.adr_state.specs.declared.state.State.{State}
use Rattle.adr_state.specs.Digits.{number_in}
use Rattle.adr_state.specs.Keys.{view_cmp, at}
use Rattle.adr_state.specs.Participants.{participants}
use Rattle.adr_state.specs.States.{empty}
use Rattle.adr_view.specs.declared.report.Reported.{Reported}
use Rattle.adr_view.specs.declared.view.Content.TheVariants as content
use Rattle.adr_view.specs.Reports.{reported}
use Rattle.adr_view.specs.Rollups.{usage_in, latest, reports_of, reports_on}
use Rattle.adr_view.specs.Same.{is_same_report}
use Rattle.adr_view.specs.Views.{view}
use Rattle.adr_queries.specs.declared.answer.Answer.{Answer}
use Rattle.adr_queries.specs.declared.answer.Answer.TheVariants as answer
use Rattle.adr_queries.specs.declared.answer.Object.TheVariants as object
use Rattle.adr_machine.specs.declared.command.Command.{Command}
use Rattle.adr_machine.specs.declared.command.Command.TheVariants.{ReportPost, ReportPut, ReportDelete}
use Rattle.adr_queries.specs.declared.role.Role.{Role}
use Rattle.adr_machine.specs.Runs.{state_after, step_at}
use Rattle.adr_laws.specs.ShownParts.{IsLive}
use Rattle.adr_laws.specs.Standing.{state_of}

-- ---- what is written

-- the report that an answer tells, with its number
abbrev pub report_in : Answer → List (ℕ × ReportBody)
report_in (answer.Object (object.Report report)) = (report.number, report.body) ∷ []
report_in _ = []

-- the report that a command writes is the one that it is answered, where it posts or replaces one
abbrev pub written_by : Command → Answer → List (ℕ × ReportBody)
written_by (ReportPost role report) a = report_in a
written_by (ReportPut role id report) a = report_in a
written_by _ a = []

-- and where it was accepted
abbrev pub written_in : Result (Answer × State) Refusal → Command → List (ℕ × ReportBody)
written_in (Ok taken) command = written_by command taken.0
written_in (Err refusal) command = []

-- all that is written in a run, the first first: one report for each post and each replacement that was accepted
abbrev pub written : Settings → State → List (ℕ × Command) → List (ℕ × ReportBody)
written settings s [] = []
written settings s (c ∷ cs) = written_in (step_at settings s c) c.1 ++ written settings (state_after s (step_at settings s c)) cs

-- ---- as it was sent

-- a report says what was sent, and is on the upstream event and the resource of the shown event that was sent with it
pub record SaysAsSent (base : Base) (sent : ReportIn) (says : ReportBody) : Type 0 where
  pub on : Reported
  pub is_shown : reported base.mirror base.portfolio sent.event ≡ Some on
  pub same_event : says.head.event ≡ on.event
  pub same_resource : says.head.resource ≡ on.resource
  pub same_program : says.head.program ≡ sent.program
  pub same_resource_name : says.head.resource_name ≡ sent.resource_name
  pub same_client : says.head.client ≡ sent.client
  pub same_name : says.head.name ≡ sent.name
  pub same_intervals : says.intervals ≡ sent.intervals

-- one report is written, of such a number, and says what was sent
pub record WritesOne (base : Base) (IsItsNumber : ℕ → Type 0) (sent : ReportIn) (writes : List (ℕ × ReportBody)) : Type 0 where
  pub number : ℕ
  pub says : ReportBody
  pub is_that : writes ≡ (number, says) ∷ []
  pub is_its_number : IsItsNumber number
  pub as_sent : SaysAsSent base sent says

-- a post writes one report under the next number, a replacement one under the number of its id, and another command none
abbrev pub Writes : Base → Command → List (ℕ × ReportBody) → Type 0
Writes base (ReportPost role sent) writes = WritesOne base (λ n. n ≡ base.serial + 1) sent writes
Writes base (ReportPut role id sent) writes = WritesOne base (λ n. number_in 112 id ≡ Some n) sent writes
Writes base _ writes = writes ≡ []

-- so each command does that is accepted, whatever the state
abbrev pub ReportsAreWrittenAsSent : Type 0
ReportsAreWrittenAsSent = (settings : Settings) (s : State) (c : ℕ × Command) → IfOk (step_at settings s c) (λ taken. Writes s.base c.1 (written_by c.1 taken.0))

-- ---- what was written last

-- the last of some, where there is one
abbrev pub last_of : {A : Type 0} → List A → Option A
last_of xs = fold (λ earlier x. Some x) None xs

-- the report of a number, as it was written last
abbrev pub last_written : ℕ → List (ℕ × ReportBody) → Option ReportBody
last_written n writes = last_of (filter_map (λ w. if w.0 == n then Some w.1 else None) writes)

-- whether what was written is there still: there is a report of its number, and it says just that, be it since then or by a later writing of the same
abbrev pub is_there_still : List (ℕ × Report) → ℕ × ReportBody → Bool
is_there_still reports w = option_map_or (λ r. is_same_report r.body w.1) (at nat_cmp w.0 reports) false

-- the value that a report says of an interval, where it is on this upstream event and this resource
abbrev pub usage_on : List ℕ → ℕ → ℤ → ReportBody → Option ℤ
usage_on event resource id body = if bytes_eq body.head.event event && (body.head.resource == resource) then usage_in id body.intervals else None

-- of all that was written and is there still, the last value for an event, a resource and an interval
abbrev pub last_reported : List (ℕ × Report) → List (ℕ × ReportBody) → List ℕ → ℕ → ℤ → Option ℤ
last_reported reports writes event resource id = last_of (filter_map (λ w. usage_on event resource id w.1) (filter (is_there_still reports) writes))

-- ---- the laws

-- the reports after a run from an empty start
abbrev pub reports_after : Settings → List (ℕ × Command) → List (ℕ × Report)
reports_after settings cs = (state_of (step_at settings) empty cs).base.portfolio.reports

-- after any run from an empty start, each report that is there says what was written last under its number
abbrev pub ReportsAreLastWritten : Type 0
ReportsAreLastWritten = (settings : Settings) (cs : List (ℕ × Command)) → All (λ r. last_written r.0 (written settings empty cs) ≡ Some r.1.body) (reports_after settings cs)

-- after any run from an empty start, the report of an id is not there when its removal is accepted
abbrev pub RemovedReportsAreGone : Type 0
RemovedReportsAreGone = (settings : Settings) (cs : List (ℕ × Command)) (now : ℕ) (role : Role) (id : List ℕ) (n : ℕ) → number_in 112 id ≡ Some n
    → IsOk (step_at settings (state_of (step_at settings) empty cs) (now, ReportDelete role id)) → at nat_cmp n (reports_after settings (cs ++ (now, ReportDelete role id) ∷ [])) ≡ None

-- and where a report was there and then is not, by whatever commands, it is never there again, whatever commands follow
abbrev pub ReportsNeverReturn : Type 0
ReportsNeverReturn = (settings : Settings) (cs others more : List (ℕ × Command)) (n : ℕ) →
    IsSome (at nat_cmp n (reports_after settings cs)) → at nat_cmp n (reports_after settings (cs ++ others)) ≡ None → at nat_cmp n (reports_after settings ((cs ++ others) ++ more)) ≡ None

-- the value that counts for an upstream event, a resource and an interval is the last one that was posted or replaced, of those that are there still; and there is none exactly where none of these has one
abbrev pub LatestIsLastReported : Type 0
LatestIsLastReported = (settings : Settings) (cs : List (ℕ × Command)) (event : List ℕ) (resource : ℕ) (id : ℤ) →
    latest id (reports_on resource (reports_of event (reports_after settings cs))) ≡ last_reported (reports_after settings cs) (written settings empty cs) event resource id

-- an interval of a roll-up has the sum of the last values, one at most of each participant, and names those who have none
pub record SumsTheLast (last : ℕ → ℤ → Option ℤ) (ps : List Participant) (i : RollupInterval) : Type 0 where
  pub sum_of_the_last : i.sum ≡ sum_of_parts (filter_map (λ p. last p.resource i.id) ps)
  pub who_has_none_is_named : (p : Participant) → Contains ps p → last p.resource i.id ≡ None → Contains i.missing p.name
  pub who_is_named_has_none : (name : List ℕ) → Contains i.missing name → (p : Participant) × Contains ps p × (last p.resource i.id ≡ None) × (p.name ≡ name)

-- a roll-up of an upstream event is of one that is live, of whose participants no two are one, and sums the last values in each interval
pub record IsOfTheLast (base : Base) (writes : List (ℕ × ReportBody)) (id : List ℕ) (rollup : Rollup) : Type 0 where
  pub event : EventBody
  pub is_live : IsLive base id event
  pub no_two_are_one : AllPairs (λ m n. m ≢ n) (map (λ p. p.resource) (participants base.portfolio id event))
  pub sums_the_last : All (SumsTheLast (last_reported base.portfolio.reports writes id) (participants base.portfolio id event)) rollup.intervals

-- after any run from an empty start, so is each roll-up that is shown
abbrev pub RollupsAreOfTheLast : Type 0
RollupsAreOfTheLast = (settings : Settings) (cs : List (ℕ × Command)) (id : List ℕ) (rollup : Rollup) →
    at view_cmp (key.Rollup id) (view (state_of (step_at settings) empty cs).base) ≡ Some (content.Rollup rollup)
    → IsOfTheLast (state_of (step_at settings) empty cs).base (written settings empty cs) id rollup
