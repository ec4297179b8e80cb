-- What a role is told of reports and of roll-ups.
use Rattle.std.specs.Prelude.{ℕ, Bool, List, filter, Option, None, Some, Result, Ok, Err, if◌then◌else◌}
use Rattle.std.specs.List.{filter_map}
use Rattle.adr_text.specs.Refusals.{◌>>=◌}
use Rattle.adr_text.specs.declared.refusal.Refusal.{Refusal}
use Rattle.adr_text.specs.declared.refusal.Refusal.TheVariants.{NotFound, Forbidden}
use Rattle.adr_objects.specs.declared.report.Rollup.{Rollup}
use Rattle.adr_state.specs.declared.base.Base.{Base}
use Rattle.adr_state.specs.declared.state.State.{State}
use Rattle.adr_state.specs.declared.portfolio.Report.{Report}
use Rattle.adr_view.specs.declared.sight.Sight.{Sight}
use Rattle.adr_view.specs.Reports.{report_with_id}
use Rattle.adr_view.specs.Rollups.{rollup_at}
use Rattle.adr_view.specs.Views.{report_row}
use Rattle.adr_queries.specs.declared.role.Role.{Role}
use Rattle.adr_queries.specs.declared.filter.ReportFilter.{ReportFilter}
use Rattle.adr_queries.specs.declared.query.Page.{Page}
use Rattle.adr_queries.specs.declared.answer.Object.{Object}
use Rattle.adr_queries.specs.declared.answer.Answer.{Answer}
use Rattle.adr_queries.specs.declared.answer.Answer.TheVariants as answer
use Rattle.adr_queries.specs.Filters.{wanted_reports}
use Rattle.adr_queries.specs.Listings.{page_of}
use Rattle.adr_queries.specs.Roles.{is_operator, sight_of}
use Rattle.adr_queries.specs.Shown.{sees_owned, object_at, told}

-- ---- reports

-- whether a report is in sight, by the resource that it is on
abbrev pub sees_report : Base → Sight → ℕ × Report → Bool
sees_report base sight r = sees_owned base sight r.1.body.head.resource

-- the reports in sight, by number, each with its stamps
abbrev pub reports_in_sight : State → Sight → List Object
reports_in_sight s sight = filter_map (λ r. object_at s.stamps (report_row r)) (filter (sees_report s.base sight) s.base.portfolio.reports)

-- one page of the wanted reports in sight, by number: what isn't wanted is left out before the page is cut
abbrev pub reports_reply : State → Role → ReportFilter → Page → Result Answer Refusal
reports_reply s role wanted page = sight_of s.base role >>= λ sight. Ok (answer.List (page_of page (wanted_reports wanted (reports_in_sight s sight))))

-- one report: one that isn't there is 6, one that is out of sight is forbidden
abbrev pub report_told : State → Sight → Option (ℕ × Report) → Result Answer Refusal
report_told s sight None = Err NotFound
report_told s sight (Some r) = if sees_report s.base sight r then told (object_at s.stamps (report_row r)) else Err Forbidden

-- the report of an id: one that isn't there is 6, one that is out of sight 8
abbrev pub report_reply : State → Role → List ℕ → Result Answer Refusal
report_reply s role id = sight_of s.base role >>= λ sight. report_told s sight (report_with_id id s.base.portfolio)

-- ---- roll-ups

-- a roll-up behind the id of its upstream event, and 6 where there is none
abbrev pub rollup_told : List ℕ → Option Rollup → Result Answer Refusal
rollup_told event None = Err NotFound
rollup_told event (Some rollup) = Ok (answer.Rollup event rollup)

-- the roll-up of an upstream event: only the operator sees roll-ups, by the id of the upstream event
abbrev pub rollup_reply : Base → Role → List ℕ → Result Answer Refusal
rollup_reply base role event = if is_operator role then rollup_told event (rollup_at base.mirror base.portfolio event) else Err Forbidden
