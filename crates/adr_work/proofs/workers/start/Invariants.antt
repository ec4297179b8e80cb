use Rattle.std.specs.Prelude.{◌≡◌, ◌+◌, ◌≤◌, length}
use Rattle.adr_work.specs.Crew.{queue_of}
use Rattle.adr_work.proofs.workers.start.Given as goal

abbrev pub invariant-loop-gate : goal.invariant-loop-gate
invariant-loop-gate g l =
    (length l.passes.items ≡ length l.gates.items + 1) × (length l.workers.threads.items + length l.passes.items ≡ length l.fn.passes.items) × (length l.fn.passes.items ≤ 17) × (queue_of l.workers ≡ l.fn.queue)

abbrev pub decreases-loop-gate : goal.decreases-loop-gate
decreases-loop-gate g l = length l.gates.items
