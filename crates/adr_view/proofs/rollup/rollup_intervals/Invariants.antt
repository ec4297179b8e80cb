use Rattle.std.proofs.Common.{◌≡◌, ◌++◌, map, drop}
use Rattle.adr_view.specs.Rollups.{rollup_interval, carried}
use Rattle.adr_view.proofs.rollup.rollup_intervals.Given as goal

-- those so far, and those among the intervals that are left
abbrev pub invariant-loop-interval : goal.invariant-loop-interval
invariant-loop-interval l = l.all.items ++ map (rollup_interval l.rs) (carried (drop l.interval-index l.intervals)) ≡ map (rollup_interval l.rs) (carried l.intervals)
