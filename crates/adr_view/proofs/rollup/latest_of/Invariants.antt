use Rattle.std.proofs.Common.{◌≡◌, fold, drop}
use Rattle.adr_view.specs.Rollups.{later, value_in, latest_of}
use Rattle.adr_view.proofs.rollup.latest_of.Given as goal

-- the best so far, and those that are left
abbrev pub invariant-loop-report : goal.invariant-loop-report
invariant-loop-report l = fold (λ best report. later best (value_in l.id report)) l.best (drop l.report-index l.reports) ≡ latest_of l.id l.reports
