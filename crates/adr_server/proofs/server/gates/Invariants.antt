use Rattle.std.specs.Prelude.{◌≡◌, length}
use Rattle.adr_server.proofs.server.gates.Given as goal

abbrev pub invariant-loop-i : goal.invariant-loop-i
invariant-loop-i g l = length l.gates.items ≡ l._i
