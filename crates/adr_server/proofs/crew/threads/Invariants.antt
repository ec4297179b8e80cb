use Rattle.std.specs.Prelude.{◌≡◌, ◌+◌, length}
use Rattle.adr_server.proofs.crew.threads.Given as goal

abbrev pub invariant-loop-pass : goal.invariant-loop-pass
invariant-loop-pass g l = length l.made.items + length l.passes.items ≡ length l.fn.passes.items

abbrev pub decreases-loop-pass : goal.decreases-loop-pass
decreases-loop-pass g l = length l.passes.items
