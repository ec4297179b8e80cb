use Rattle.std.proofs.Common.{◌≡◌, drop, map}
use Rattle.adr_state.specs.Keys.{frozen_cmp, with_rows}
use Rattle.adr_state.specs.Frozen.{frozen_row}
use Rattle.adr_state.proofs.frozen.put_pairs.Given as goal

-- the shares with the pairs that are left are those with all pairs
abbrev pub invariant-loop-pair : goal.invariant-loop-pair
invariant-loop-pair l = with_rows frozen_cmp l.shares (map (frozen_row l.event) (drop l.pair-index l.pairs)) ≡ with_rows frozen_cmp l.fn.shares (map (frozen_row l.event) l.pairs)
