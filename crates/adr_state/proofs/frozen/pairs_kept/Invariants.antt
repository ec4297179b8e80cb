use Rattle.std.proofs.Common.{◌≡◌, ◌++◌, map, filter}
use Rattle.adr_state.specs.Frozen.{is_of_event, pair_of, pairs_kept}
use Rattle.adr_state.proofs.frozen.pairs_kept.Given as goal

-- the pairs so far, and those among the shares that are left
abbrev pub invariant-loop-key : goal.invariant-loop-key
invariant-loop-key l = l.pairs.items ++ map pair_of (filter (is_of_event l.event) l.key-iterator) ≡ pairs_kept l.portfolio l.event
