use Rattle.std.proofs.Common.{◌≡◌, drop}
use Rattle.adr_view.specs.Rollups.{usage_in}
use Rattle.adr_view.proofs.rollup.usage_in.Given as goal

-- those that are left decide
abbrev pub invariant-loop-interval : goal.invariant-loop-interval
invariant-loop-interval l = usage_in l.id (drop l.interval-index l.intervals) ≡ usage_in l.id l.intervals
