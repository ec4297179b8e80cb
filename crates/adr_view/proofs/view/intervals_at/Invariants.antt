use Rattle.std.proofs.Common.{◌≡◌, map, take}
use Rattle.adr_view.specs.Views.{interval_at}
use Rattle.adr_view.proofs.view.intervals_at.Given as goal

abbrev pub invariant-loop-interval : goal.invariant-loop-interval
invariant-loop-interval l = l.all.items ≡ map (interval_at l.place) (take l.interval-index l.intervals)
