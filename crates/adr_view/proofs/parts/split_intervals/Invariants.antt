use Rattle.std.proofs.Common.{◌≡◌, map, take}
use Rattle.adr_view.specs.Views.{split_interval}
use Rattle.adr_view.proofs.parts.split_intervals.Given as goal

abbrev pub invariant-loop-interval : goal.invariant-loop-interval
invariant-loop-interval l = l.all.items ≡ map (split_interval l.weights) (take l.interval-index l.intervals)
