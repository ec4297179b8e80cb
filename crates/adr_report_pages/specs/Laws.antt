-- Laws of what is told of the reports that are kept.
use Rattle.std.specs.Prelude.{◌≡◌, List, map, take, drop, Some}
use Rattle.sqlite.specs.State as sql
use Rattle.adr_state.specs.declared.state.State.{State}
use Rattle.adr_view.specs.declared.sight.Sight.{Sight}
use Rattle.adr_queries.specs.declared.answer.Object.{Object}
use Rattle.adr_queries.specs.declared.filter.ReportFilter.{ReportFilter}
use Rattle.adr_queries.specs.declared.query.Page.{Page}
use Rattle.adr_queries.specs.Filters.{wanted_reports}
use Rattle.adr_queries.specs.Listings.{page_of}
use Rattle.adr_queries.specs.Reported.{reports_in_sight}
use Rattle.adr_held.specs.Held.{kept_of, HoldsState}
use Rattle.adr_report_pages.specs.Columns.{columns_in_sight, wanted_among}
use Rattle.adr_report_pages.specs.Objects.{object_kept}

-- where the tables hold a state, a page of the wanted reports in sight is the page of the columns kept of those in sight which are wanted, told one by
-- one, each with the intervals and the stamps that are kept for its number
abbrev pub ReportsAreTheirRows : sql.State → Type 0
ReportsAreTheirRows s = (held : State) (sight : Sight) (wanted : ReportFilter) (page : Page) (objects : List Object) → HoldsState held s
    → map Some objects ≡ map (object_kept (kept_of held)) (take page.limit (drop page.skip (wanted_among wanted (columns_in_sight (kept_of held) sight))))
    → page_of page (wanted_reports wanted (reports_in_sight held sight)) ≡ objects
