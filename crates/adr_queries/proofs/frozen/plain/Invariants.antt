use Rattle.std.proofs.Common.{◌≡◌, ◌++◌, drop}
use Rattle.adr_queries.proofs.frozen.plain.Given as goal

-- the pairs so far, and those that are left
abbrev pub invariant-loop-pair : goal.invariant-loop-pair
invariant-loop-pair l = l.all.items ++ drop l.pair-index l.pairs ≡ l.pairs
