use Rattle.std.proofs.Common.{◌≡◌, drop}
use Rattle.adr_state.specs.Mirror.{joined, evidence_of}
use Rattle.adr_state.proofs.mirror.join.Given as goal

-- what was joined so far, and what is left
abbrev pub invariant-loop-found : goal.invariant-loop-found
invariant-loop-found l = joined l.mirror (evidence_of (drop l.found-index l.founds)) ≡ joined l.fn.mirror (evidence_of l.founds)
