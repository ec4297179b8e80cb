-- The reports that are listed.
use Rattle.std.specs.Prelude.{◌≡◌, ◌&&◌, ℕ, Bool, true, List, filter, Some, None, Ok}
use Rattle.std.specs.Bool.{Decides}
use Rattle.std.specs.List.{AllZip}
use Rattle.std.specs.List.Sorted.{IsStrictlySortedBy}
use Rattle.std.specs.Map.{keys_of}
use Rattle.std.specs.Ordering.{nat_cmp}
use Rattle.adr_objects.specs.declared.report.ReportBody.{ReportBody}
use Rattle.adr_objects.specs.declared.shown.Stamps.{Stamps}
use Rattle.adr_state.specs.declared.base.Base.{Base}
use Rattle.adr_state.specs.declared.keys.ViewKey.{ViewKey}
use Rattle.adr_state.specs.declared.limits.Settings.{Settings}
use Rattle.adr_state.specs.declared.portfolio.Report.{Report}
use Rattle.adr_state.specs.declared.portfolio.Resource.{Resource}
use Rattle.adr_state.specs.declared.state.State.{State}
use Rattle.adr_state.specs.Keys.{at}
use Rattle.adr_view.specs.declared.sight.Sight.{Sight}
use Rattle.adr_view.specs.declared.sight.Sight.TheVariants.{All, Of}
use Rattle.adr_view.specs.Laws.{StandsInOrder}
use Rattle.adr_view.specs.Views.{report_row}
use Rattle.adr_queries.specs.declared.answer.Answer.TheVariants as answer
use Rattle.adr_queries.specs.declared.answer.Object.{Object}
use Rattle.adr_queries.specs.declared.filter.ReportFilter.{ReportFilter}
use Rattle.adr_queries.specs.declared.query.Page.{Page}
use Rattle.adr_queries.specs.declared.query.Query.TheVariants as query
use Rattle.adr_queries.specs.declared.role.Role.{Role}
use Rattle.adr_queries.specs.Filters.{is_among_all}
use Rattle.adr_queries.specs.Listings.{page_of}
use Rattle.adr_queries.specs.Replies.{reply}
use Rattle.adr_queries.specs.Reported.{sees_report}
use Rattle.adr_queries.specs.Roles.{sight_of}
use Rattle.adr_machine.specs.declared.command.Command.{Command}
use Rattle.adr_laws.specs.Entries.{reached}
use Rattle.adr_laws.specs.Laws.{IsStampedAsShown}
use Rattle.adr_laws.specs.Told.{Tells}

-- whether a report is of the programs and of the clients that are asked for, where any are
abbrev pub meets : ReportFilter → ReportBody → Bool
meets wanted report = is_among_all wanted.programs report.head.program && is_among_all wanted.clients report.head.client

-- the reports that are kept, in sight, and asked for
abbrev pub reports_asked_for : Base → Sight → ReportFilter → List (ℕ × Report)
reports_asked_for base sight wanted = filter (λ r. sees_report base sight r && meets wanted r.1.body) base.portfolio.reports

-- an object tells a report: its number, what it says, and the stamps that stand at its key
abbrev pub TellsReport : List (ViewKey × Stamps) → ℕ × Report → Object → Type 0
TellsReport stamps r told = Tells stamps (report_row r) told

-- a list of objects tells all of them, one by one and in the order of their numbers, and what is answered is a page of that list
pub record ListsAll (s : State) (role : Role) (sight : Sight) (wanted : ReportFilter) : Type 0 where
  pub listed : List Object
  pub numbers_rise : IsStrictlySortedBy nat_cmp (keys_of (reports_asked_for s.base sight wanted))
  pub each_is_told : AllZip (TellsReport s.stamps) (reports_asked_for s.base sight wanted) listed
  pub a_page_is_answered : (page : Page) → reply s (query.Reports role wanted page) ≡ Ok (answer.List (page_of page listed))

-- where what is shown is stamped and rows stand in order, who sees anything is answered a page of all reports in sight that are asked for: none lacks, not even for want of stamps
abbrev pub ReportsLackNone : Type 0
ReportsLackNone = (s : State) (role : Role) (sight : Sight) (wanted : ReportFilter) → IsStampedAsShown s → StandsInOrder s.base → sight_of s.base role ≡ Ok sight → ListsAll s role sight wanted

-- so it is after any run from an empty start
abbrev pub ReportsLackNoneAfterRuns : Type 0
ReportsLackNoneAfterRuns = (settings : Settings) (cs : List (ℕ × Command)) (role : Role) (sight : Sight) (wanted : ReportFilter) →
    sight_of (reached settings cs).base role ≡ Ok sight → ListsAll (reached settings cs) role sight wanted

-- the operator sees each report, and a ven exactly those on a resource that is there and is its own
pub record IsSeenByItsOwn (base : Base) (r : ℕ × Report) : Type 0 where
  pub by_the_operator : sees_report base All r ≡ true
  pub by_a_ven : (ven : ℕ) → Decides (sees_report base (Of ven) r) ((resource : Resource) × (at nat_cmp r.1.body.head.resource base.portfolio.resources ≡ Some resource) × (resource.ven ≡ ven))

-- so it is of every report
abbrev pub ReportsAreSeenByTheirOwn : Type 0
ReportsAreSeenByTheirOwn = (base : Base) (r : ℕ × Report) → IsSeenByItsOwn base r

-- no filter
abbrev pub whatever : ReportFilter
whatever = record { programs = None; clients = None }

-- without a filter all reports in sight are asked for, which for the operator are all that are kept
pub record AsksForAll (base : Base) : Type 0 where
  pub in_sight : (sight : Sight) → reports_asked_for base sight whatever ≡ filter (sees_report base sight) base.portfolio.reports
  pub kept : reports_asked_for base All whatever ≡ base.portfolio.reports

-- so it is whatever is kept
abbrev pub NoFilterAsksForAll : Type 0
NoFilterAsksForAll = (base : Base) → AsksForAll base
