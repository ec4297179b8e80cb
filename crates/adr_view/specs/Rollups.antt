-- What the sites report of an upstream event: the latest value of each participant in an interval, and the roll-up of them all.
use Rattle.std.specs.Prelude.{ℕ, ◌*◌, nat_lt, ◌==◌, ℤ, pos, ◌+ℤ◌, Bool, ◌&&◌, List, [], ◌∷◌, map, filter, fold, Option, None, Some, is_some, is_none, option_map, option_and_then, if◌then◌else◌}
use Rattle.std.specs.List.{list_any}
use Rattle.std.specs.Ordering.{int_eq}
use Rattle.std.specs.Str.{bytes_eq}
use Rattle.std.specs.BTreeSet.{insert_key}
use Rattle.adr_objects.specs.declared.interval.Interval.{Interval}
use Rattle.adr_objects.specs.declared.body.EventBody.{EventBody}
use Rattle.adr_objects.specs.declared.body.Body.TheVariants as body
use Rattle.adr_objects.specs.declared.kind.Kind.TheVariants as kind
use Rattle.adr_objects.specs.declared.report.UsageInterval.{UsageInterval}
use Rattle.adr_objects.specs.declared.report.RollupInterval.{RollupInterval}
use Rattle.adr_objects.specs.declared.report.Rollup.{Rollup}
use Rattle.adr_state.specs.declared.keys.MirrorKey.{MirrorKey}
use Rattle.adr_state.specs.declared.base.Mark.{Mark}
use Rattle.adr_state.specs.declared.base.Mark.TheVariants.{Live, Dead}
use Rattle.adr_state.specs.declared.portfolio.Portfolio.{Portfolio}
use Rattle.adr_state.specs.declared.portfolio.Report.{Report}
use Rattle.adr_state.specs.declared.participants.Participant.{Participant}
use Rattle.adr_objects.specs.Limits.{most_setpoint}
use Rattle.adr_state.specs.Weights.{most_resources}
use Rattle.adr_state.specs.Keys.{id_cmp, mirror_cmp, at}
use Rattle.adr_state.specs.Participants.{participants}
use Rattle.adr_view.specs.declared.rollup.Reporter.{Reporter}

-- ---- the latest value

-- the usage that intervals say of an id: that of the first which has it
abbrev pub usage_in : ℤ → List UsageInterval → Option ℤ
usage_in id [] = None
usage_in id (i ∷ is) = if int_eq i.id id then i.usage else usage_in id is

-- the value that a report has for an interval, behind its revision
abbrev pub value_in : ℤ → Report → Option (ℕ × ℤ)
value_in id report = option_map (λ usage. (report.revision, usage)) (usage_in id report.body.intervals)

-- of two values that of the greater revision, and of equal ones the first
abbrev pub later : Option (ℕ × ℤ) → Option (ℕ × ℤ) → Option (ℕ × ℤ)
later None v = v
later (Some u) None = Some u
later (Some u) (Some v) = if nat_lt u.0 v.0 then Some v else Some u

-- the value of the report of greatest revision among those that have one for an interval, behind that revision
abbrev pub latest_of : ℤ → List Report → Option (ℕ × ℤ)
latest_of id reports = fold (λ best report. later best (value_in id report)) None reports

-- the value of the report of greatest revision among those that have one for an interval
abbrev pub latest : ℤ → List Report → Option ℤ
latest id reports = option_map (λ v. v.1) (latest_of id reports)

-- ---- who reports

-- the reports of an upstream event
abbrev pub reports_of : List ℕ → List (ℕ × Report) → List Report
reports_of event reports = map (λ r. r.1) (filter (λ r. bytes_eq r.1.body.head.event event) reports)

-- those on a resource
abbrev pub reports_on : ℕ → List Report → List Report
reports_on resource reports = filter (λ r. r.body.head.resource == resource) reports

-- a participant's name, with those of an event's reports that are on it
abbrev pub reporter_of : List Report → Participant → Reporter
reporter_of reports p = record { name = p.name; reports = reports_on p.resource reports }

-- each participant's name with its reports, in their order
abbrev pub reporters : List Report → List Participant → List Reporter
reporters reports ps = map (reporter_of reports) ps

-- ---- the roll-up

-- a sum with one more value, where there is one
abbrev pub plus : ℤ → Option ℤ → ℤ
plus sum None = sum
plus sum (Some v) = sum +ℤ v

-- the largest magnitude of a sum: that of the values of 10,000 participants
abbrev pub most_sum : ℕ
most_sum = most_resources * most_setpoint

-- the sum of the latest values in an interval
abbrev pub sum_at : ℤ → List Reporter → ℤ
sum_at id rs = fold (λ sum r. plus sum (latest id r.reports)) (pos 0) rs

-- those that have none
abbrev pub lacking : ℤ → List Reporter → List Reporter
lacking id rs = filter (λ r. is_none (latest id r.reports)) rs

-- the names of those that have no latest value in an interval, ascending by bytes
abbrev pub missing_at : ℤ → List Reporter → List (List ℕ)
missing_at id rs = fold (λ names r. insert_key id_cmp names r.name) [] (lacking id rs)

-- an interval with the sum of the latest values and the names of those that have none: without a value it has the sum
-- 0, and names all
abbrev pub rollup_interval : List Reporter → Interval → RollupInterval
rollup_interval rs i = record { id = i.id; sum = sum_at i.id rs; missing = missing_at i.id rs }

-- whether one has a value in an interval
abbrev pub has_value : List Reporter → Interval → Bool
has_value rs i = list_any (λ r. is_some (latest i.id r.reports)) rs

-- whether an interval carries a setpoint
abbrev pub is_carried : Interval → Bool
is_carried i = is_some i.setpoint

-- the intervals that carry a setpoint, in their order
abbrev pub carried : List Interval → List Interval
carried intervals = filter is_carried intervals

-- whether an interval carries a setpoint, and one has a value in it
abbrev pub is_reported : List Reporter → Interval → Bool
is_reported rs i = is_carried i && has_value rs i

-- the roll-up of those who report, where one of them has a value for an interval that is carried
abbrev pub rollup_for : EventBody → List Reporter → Option Rollup
rollup_for event rs =
    if list_any (is_reported rs) event.intervals then Some (record { program = event.program; intervals = map (rollup_interval rs) (carried event.intervals) }) else None

-- the roll-up of an event over its participants
abbrev pub rollup_of : Portfolio → List ℕ → EventBody → Option Rollup
rollup_of p id event = rollup_for event (reporters (reports_of id p.reports) (participants p id event))

-- the upstream key of an event
abbrev pub event_key : List ℕ → MirrorKey
event_key id = record { kind = kind.Event; id = id }

-- what an event says that is live upstream, where its body was read
abbrev pub event_body : Option Mark → Option EventBody
event_body None = None
event_body (Some Dead) = None
event_body (Some (Live moment (body.Program name))) = None
event_body (Some (Live moment (body.Event event))) = Some event
event_body (Some (Live moment (body.Opaque reason))) = None

-- what an event of an id says that is live upstream, where its body was read
abbrev pub event_at : List (MirrorKey × Mark) → List ℕ → Option EventBody
event_at mirror id = event_body (at mirror_cmp (event_key id) mirror)

-- the roll-up of an upstream event
abbrev pub rollup_at : List (MirrorKey × Mark) → Portfolio → List ℕ → Option Rollup
rollup_at mirror p id = option_and_then (rollup_of p id) (event_at mirror id)
