use Rattle.std.proofs.Common.{◌≡◌, ◌++◌, filter}
use Rattle.std.specs.List.{filter_map}
use Rattle.adr_view.specs.Views.{report_row}
use Rattle.adr_queries.specs.Reported.{sees_report, reports_in_sight}
use Rattle.adr_queries.specs.Shown.{object_at}
use Rattle.adr_queries.proofs.reported.reports_in_sight.Given as goal

-- the reports so far, and those that are left
abbrev pub invariant-loop-number : goal.invariant-loop-number
invariant-loop-number l = l.all.items ++ filter_map (λ r. object_at l.state.stamps (report_row r)) (filter (sees_report l.state.base l.sight) l.number-iterator) ≡ reports_in_sight l.state l.sight
