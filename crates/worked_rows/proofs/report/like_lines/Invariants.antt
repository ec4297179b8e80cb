use Rattle.std.proofs.Common.{◌-◌, ◌≤◌}
use Rattle.worked_rows.proofs.report.like_lines.Given as goal

abbrev pub invariant-loop-at : goal.invariant-loop-at
invariant-loop-at l = l.at ≤ l.most

abbrev pub decreases-loop-at : goal.decreases-loop-at
decreases-loop-at l = l.most - l.at
