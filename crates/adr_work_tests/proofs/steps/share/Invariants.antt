use Rattle.std.specs.Prelude.{◌≡◌, ◌+◌, length}
use Rattle.adr_work_tests.proofs.steps.share.Given as goal

-- each pass is free or with a thread
abbrev pub invariant-loop-pass : goal.invariant-loop-pass
invariant-loop-pass g l = (length l.passes.items + length l.threads.items ≡ 4) × (l.number ≡ length l.threads.items)

abbrev pub decreases-loop-pass : goal.decreases-loop-pass
decreases-loop-pass g l = length l.passes.items

abbrev pub invariant-loop-thread : goal.invariant-loop-thread
invariant-loop-thread g l = length l.passes.items + length l.threads.items ≡ 4

abbrev pub decreases-loop-thread : goal.decreases-loop-thread
decreases-loop-thread g l = length l.threads.items
