use Rattle.std.proofs.Common.{◌≡◌, map}
use Rattle.adr_state.specs.Keys.{view_cmp, with_rows}
use Rattle.adr_view.specs.Views.{report_row}
use Rattle.adr_view.proofs.all.put_reports.Given as goal

-- the rows so far, and those of the reports that are left
abbrev pub invariant-reports : goal.invariant-reports
invariant-reports l = with_rows view_cmp l.view (map report_row l.number-iterator) ≡ with_rows view_cmp l.fn.view (map report_row l.reports)
