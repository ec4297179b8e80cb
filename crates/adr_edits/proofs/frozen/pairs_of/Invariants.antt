use Rattle.std.proofs.Common.{◌≡◌, ◌++◌, drop}
use Rattle.adr_view.specs.Frozen.{pairs_of}
use Rattle.adr_edits.proofs.frozen.pairs_of.Given as goal

-- the pairs so far, and those of the participants that are left
abbrev pub invariant-loop-p : goal.invariant-loop-p
invariant-loop-p l = l.pairs.items ++ pairs_of (drop l.p-index l.ps) ≡ pairs_of l.ps
