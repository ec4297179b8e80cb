-- What is kept of reports without their intervals: the columns of each, behind its number.
use Rattle.std.specs.Prelude.{ℕ, Bool, ◌==◌, ◌&&◌, List, map, filter, Option, option_map}
use Rattle.std.specs.List.{list_any}
use Rattle.adr_state.specs.declared.portfolio.Report.{Report}
use Rattle.adr_state.specs.Portfolios.{reported_on}
use Rattle.adr_view.specs.declared.sight.Sight.{Sight}
use Rattle.adr_queries.specs.declared.filter.ReportFilter.{ReportFilter}
use Rattle.adr_queries.specs.Filters.{is_among_all}
use Rattle.adr_queries.specs.Reported.{sees_report}
use Rattle.adr_db.specs.declared.report_columns.ReportColumns.{ReportColumns}
use Rattle.adr_db.specs.Images.{image_kept}
use Rattle.adr_db.specs.Kept.{Kept}
use Rattle.adr_db_portfolio.specs.Columns.{columns_at}

-- the columns of a report, behind its number
abbrev pub Entry : Type 0
Entry = ℕ × ReportColumns

-- those of a report
abbrev pub columns_of : ℕ × Report → Entry
columns_of r = (r.0, record { head = r.1.body.head; revision = r.1.revision })

-- the columns of the reports in sight, by number
abbrev pub columns_in_sight : Kept → Sight → List Entry
columns_in_sight kept sight = map columns_of (filter (sees_report (image_kept kept).base sight) kept.portfolio.reports)

-- ---- what is wanted

-- whether a report of these columns is of the programs and of the clients that are wanted, where any are asked for
abbrev pub wants_columns : ReportFilter → ReportColumns → Bool
wants_columns f columns = is_among_all f.programs columns.head.program && is_among_all f.clients columns.head.client

-- of these entries those that are wanted
abbrev pub wanted_among : ReportFilter → List Entry → List Entry
wanted_among f entries = filter (λ e. wants_columns f e.1) entries

-- ---- by number

-- the columns of the report of a number, where there is one, behind it
abbrev pub entry_at : ℕ → Kept → Option Entry
entry_at n kept = option_map (λ columns. (n, columns)) (columns_at n kept)

-- the number of a report, with that of the resource that it is on
abbrev pub with_resource : ℕ × Report → ℕ × ℕ
with_resource r = (r.0, reported_on r)

-- whether the resource behind a number is one of these
abbrev pub on_any : List ℕ → ℕ × ℕ → Bool
on_any resources e = list_any (λ n. e.1 == n) resources
