use Rattle.std.proofs.Common.{◌≡◌, map, take}
use Rattle.adr_state.specs.Frozen.{pair_of}
use Rattle.adr_frozen.proofs.pairs.pairs_of.Given as goal

-- the pairs so far
abbrev pub invariant-shares : goal.invariant-shares
invariant-shares l = l.pairs.items ≡ map pair_of (take l.share-index l.shares)
