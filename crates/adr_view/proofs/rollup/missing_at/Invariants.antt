use Rattle.std.proofs.Common.{◌≡◌, ◌++◌}
use Rattle.adr_view.specs.Rollups.{missing_at}
use Rattle.adr_view.proofs.rollup.missing_at.Given as goal

abbrev pub invariant-loop-name : goal.invariant-loop-name
invariant-loop-name l = l.all.items ++ l.name-iterator ≡ missing_at l.id l.rs
