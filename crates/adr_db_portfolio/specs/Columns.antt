-- What is kept of a report without its intervals.
use Rattle.std.specs.Prelude.{ℕ, Option, option_map}
use Rattle.std.specs.Ordering.{nat_cmp}
use Rattle.adr_state.specs.Keys.{at}
use Rattle.adr_db.specs.declared.report_columns.ReportColumns.{ReportColumns}
use Rattle.adr_db.specs.Kept.{Kept}

-- the columns of the report of a number, where there is one
abbrev pub columns_at : ℕ → Kept → Option ReportColumns
columns_at n kept = option_map (λ report. record { head = report.body.head; revision = report.revision }) (at nat_cmp n kept.portfolio.reports)
