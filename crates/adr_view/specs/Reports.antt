-- Reports: the shown event that each is on, and what is decided of them.
use Rattle.std.specs.Prelude.{ℕ, Bool, true, ◌&&◌, List, Option, Some, None, is_some, option_map, option_and_then, Result, Ok, Err, if◌then◌else◌}
use Rattle.std.specs.Option.{option_map_or}
use Rattle.std.specs.Ordering.{nat_cmp}
use Rattle.std.specs.Str.{bytes_eq}
use Rattle.adr_text.specs.Refusals.{◌>>=◌, or_else}
use Rattle.adr_text.specs.declared.refusal.Refusal.{Refusal}
use Rattle.adr_text.specs.declared.refusal.Refusal.TheVariants.{NotFound, Forbidden, ResourceNotOfEvent, LimitReached}
use Rattle.adr_objects.specs.declared.body.EventBody.{EventBody}
use Rattle.adr_objects.specs.declared.site.ReportIn.{ReportIn}
use Rattle.adr_state.specs.declared.base.Mark.{Mark}
use Rattle.adr_state.specs.declared.keys.MirrorKey.{MirrorKey}
use Rattle.adr_state.specs.declared.limits.Limits.{Limits}
use Rattle.adr_state.specs.declared.portfolio.Portfolio.{Portfolio}
use Rattle.adr_state.specs.declared.portfolio.Resource.{Resource}
use Rattle.adr_state.specs.declared.portfolio.Report.{Report}
use Rattle.adr_state.specs.Digits.{number_in}
use Rattle.adr_state.specs.Keys.{at}
use Rattle.adr_state.specs.Names.{is_full}
use Rattle.adr_state.specs.Participants.{participant_of}
use Rattle.adr_state.specs.Portfolios.{PortfolioChange, PutReport, DropReport}
use Rattle.adr_state.specs.ShownIds.{resource_part, event_part, id_in, resource_named}
use Rattle.adr_view.specs.declared.report.Reported.{Reported}
use Rattle.adr_view.specs.declared.sight.Sight.{Sight}
use Rattle.adr_view.specs.Views.{carries}
use Rattle.adr_view.specs.Rollups.{event_at}
use Rattle.adr_view.specs.Sights.{sees_ven}

-- ---- what a report is on

-- whether an event is shown to a resource: it carries a setpoint, and the resource takes part in it
abbrev pub is_shown_to : Portfolio → List ℕ → EventBody → ℕ × Resource → Bool
is_shown_to p id event r = carries event && is_some (participant_of p id event r)

-- what a report may be on: an upstream event and a resource, with the event's program and the resource's name, where
-- the event is shown to it
abbrev pub reported_of : Portfolio → ℕ × Resource → List ℕ → EventBody → Option Reported
reported_of p r id event = if is_shown_to p id event r then Some (record { event = id; program = event.program; resource = r.0; resource_name = r.1.name }) else None

-- what a report on a resource may be on, by the event's upstream id, where that event is live and shown to it
abbrev pub reported_by : List (MirrorKey × Mark) → Portfolio → List ℕ → ℕ × Resource → Option Reported
reported_by mirror p id r = option_and_then (reported_of p r id) (event_at mirror id)

-- what a report may be on, by the two parts of the id of a shown event
abbrev pub reported_in : List (MirrorKey × Mark) → Portfolio → List ℕ → List ℕ → Option Reported
reported_in mirror p resource event = option_and_then (λ r. option_and_then (λ id. reported_by mirror p id r) (id_in event)) (resource_named p resource)

-- the shown event of an id, where it is there; an id without `-` is none
abbrev pub reported : List (MirrorKey × Mark) → Portfolio → List ℕ → Option Reported
reported mirror p id = option_and_then (reported_in mirror p (resource_part id)) (event_part id)

-- whether a report names the resource and the program of the event that it is on
abbrev pub fits : Reported → ReportIn → Bool
fits on report = bytes_eq report.resource_name on.resource_name && bytes_eq report.program on.program

-- a report as it is kept, with its revision
abbrev pub kept_report : ℕ → Reported → ReportIn → Report
kept_report revision on report = record {
  revision = revision;
  body = record {
    head = record { program = report.program; event = on.event; resource = on.resource; client = report.client; name = report.name; resource_name = report.resource_name };
    intervals = report.intervals;
  };
}

-- ---- what is decided

-- the event that a report is on: one that isn't there is 6, one that it does not fit 11
abbrev pub report_on : ReportIn → List (MirrorKey × Mark) → Portfolio → Result Reported Refusal
report_on report mirror p = or_else NotFound (reported mirror p report.event) >>= λ on. if fits on report then Ok on else Err ResourceNotOfEvent

-- the report of an id, with its number
abbrev pub report_with_id : List ℕ → Portfolio → Option (ℕ × Report)
report_with_id id p = option_and_then (λ n. option_map (λ r. (n, r)) (at nat_cmp n p.reports)) (number_in 112 id)

-- a report is put, and answered with its number
abbrev pub putting_report : ℕ → Report → (ℕ × Report) × PortfolioChange
putting_report n report = ((n, report), PutReport n report)

-- a new report, under the number that is handed in, which is its revision too: 10 where there are as many as may be
abbrev pub report_made : Limits → ℕ → ReportIn → List (MirrorKey × Mark) → Portfolio → Result ((ℕ × Report) × PortfolioChange) Refusal
report_made limits n report mirror p = report_on report mirror p >>= λ on. if is_full limits.reports p.reports then Err LimitReached else Ok (putting_report n (kept_report n on report))

-- the report of an id says this from now on, with the number that is handed in as its revision; it keeps its own
-- number, and may be on another event
abbrev pub report_replaced : ℕ → List ℕ → ReportIn → List (MirrorKey × Mark) → Portfolio → Result ((ℕ × Report) × PortfolioChange) Refusal
report_replaced n id report mirror p = or_else NotFound (report_with_id id p) >>= λ old. report_on report mirror p >>= λ on. Ok (putting_report old.0 (kept_report n on report))

-- the report of an id goes, and is answered as it was
abbrev pub report_removed : List ℕ → Portfolio → Result ((ℕ × Report) × PortfolioChange) Refusal
report_removed id p = or_else NotFound (report_with_id id p) >>= λ old. Ok (old, DropReport old.0)

-- ---- and of whom

-- whether a resource that is named is in sight; where none is named, nothing is out of sight
abbrev pub sees_resource : Sight → Option Resource → Bool
sees_resource sight resource = option_map_or (λ r. sees_ven sight r.ven) resource true

-- the resource that the id of a shown event names, where it is there; an id without `-` names none
abbrev pub resource_of_event : List ℕ → Portfolio → Option Resource
resource_of_event id p = option_and_then (λ event. option_map (λ r. r.1) (resource_named p (resource_part id))) (event_part id)

-- the resource that the report of an id is on, where it is there
abbrev pub resource_of_report : List ℕ → Portfolio → Option Resource
resource_of_report id p = option_and_then (λ r. at nat_cmp r.1.body.head.resource p.resources) (report_with_id id p)

-- whether who sees this much may report of the event that a report names: the resource that its id names is in sight,
-- or isn't there
abbrev pub may_report : Sight → ReportIn → Portfolio → Bool
may_report sight report p = sees_resource sight (resource_of_event report.event p)

-- whether who sees this much may change the report of an id: the resource that it is on is in sight, or there is none
abbrev pub may_change : Sight → List ℕ → Portfolio → Bool
may_change sight id p = sees_resource sight (resource_of_report id p)

-- a new report; where the resource that its event names is out of sight it is 8, whether all else is there or not
abbrev pub report_post : Limits → Sight → ℕ → ReportIn → List (MirrorKey × Mark) → Portfolio → Result ((ℕ × Report) × PortfolioChange) Refusal
report_post limits sight n report mirror p = if may_report sight report p then report_made limits n report mirror p else Err Forbidden

-- the report of an id says this from now on; where the resource that it is on, or the one that its new event names,
-- is out of sight it is 8, whether all else is there or not
abbrev pub report_put : Sight → ℕ → List ℕ → ReportIn → List (MirrorKey × Mark) → Portfolio → Result ((ℕ × Report) × PortfolioChange) Refusal
report_put sight n id report mirror p = if may_change sight id p && may_report sight report p then report_replaced n id report mirror p else Err Forbidden

-- the report of an id goes; where the resource that it is on is out of sight it is 8
abbrev pub report_delete : Sight → List ℕ → Portfolio → Result ((ℕ × Report) × PortfolioChange) Refusal
report_delete sight id p = if may_change sight id p then report_removed id p else Err Forbidden
