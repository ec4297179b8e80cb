use Rattle.std.proofs.Common.{◌≡◌, ◌++◌}
use Rattle.adr_state.specs.Scans.{probes}
use Rattle.adr_state.proofs.polled.probes.Given as goal

-- the keys so far, and those among the rows that are left
abbrev pub invariant-loop-key : goal.invariant-loop-key
invariant-loop-key l = l.keys.items ++ probes l.key-iterator l.polled ≡ probes l.mirror l.polled
