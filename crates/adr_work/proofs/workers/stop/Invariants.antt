use Rattle.std.specs.Prelude.{◌≡◌, ◌+◌, ◌<◌, ◌≤◌, All, [], length, vec_capacity}
use Rattle.std.specs.Arc.{arc_value}
use Rattle.crossbeam_queue.specs.Passes.{view}
use Rattle.adr_work.specs.Fair.{all_parts}
use Rattle.adr_work.specs.Seats.{IsSeatOf, IsFresh}
use Rattle.adr_work.proofs.workers.stop.Given as goal

abbrev pub invariant-loop-thread : goal.invariant-loop-thread
invariant-loop-thread g l = record {
  seat : IsSeatOf (arc_value l.queue) l.whole;
  queue : arc_value l.queue ≡ arc_value l.fn.workers.queue;
  nothing : (view l.whole).left ≡ [];
  parts : (view l.whole).parts + length l.threads.items ≡ all_parts;
  some : 0 < (view l.whole).parts;
  handed : All (λ t. IsFresh (arc_value l.queue) t.promise.0.value) l.threads.items;
  count : length l.passes.items + length l.threads.items ≡ length l.fn.workers.threads.items;
  room : length l.fn.workers.threads.items ≤ vec_capacity l.passes;
}

abbrev pub decreases-loop-thread : goal.decreases-loop-thread
decreases-loop-thread g l = goal.left-loop-thread g l
