use Rattle.std.proofs.Common.{◌≡◌, ◌++◌}
use Rattle.adr_view.specs.Rollups.{reports_of}
use Rattle.adr_view.proofs.rollup.reports_of.Given as goal

-- those so far, and those among the rows that are left
abbrev pub invariant-loop-report : goal.invariant-loop-report
invariant-loop-report l = l.all.items ++ reports_of l.event l.report-iterator ≡ reports_of l.event l.reports
