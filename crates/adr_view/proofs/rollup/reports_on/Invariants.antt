use Rattle.std.proofs.Common.{◌≡◌, ◌++◌, drop}
use Rattle.adr_view.specs.Rollups.{reports_on}
use Rattle.adr_view.proofs.rollup.reports_on.Given as goal

-- those so far, and those among the reports that are left
abbrev pub invariant-loop-report : goal.invariant-loop-report
invariant-loop-report l = l.all.items ++ reports_on l.resource (drop l.report-index l.reports) ≡ reports_on l.resource l.reports
