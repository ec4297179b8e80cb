use Rattle.std.proofs.Common.{◌≡◌}
use Rattle.adr_touched.specs.Touched.{set_of}
use Rattle.adr_touched.proofs.ordered.set_of.Given as goal

-- the set of those so far
abbrev pub invariant-items : goal.invariant-items
invariant-items g l = l.set.keys ≡ set_of g.T.Ord.cmp l.yielded
