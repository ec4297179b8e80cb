use Rattle.std.specs.Prelude.{◌≡◌}
use Rattle.crossbeam_queue.specs.Passes.{view, IsSamePass}
use Rattle.adr_work.specs.Fair.{hand, all_parts}
use Rattle.adr_work.proofs.queue.JobQueue.clear.Given as goal

abbrev pub invariant-loop : goal.invariant-loop
invariant-loop g l =
    (goal.iterator-loop g).can_next l.iterator' × (goal.iterator-loop g).is_finite l.iterator'
    × IsSamePass l.fn.whole l.whole × (view l.whole ≡ hand all_parts (view l.fn.whole).put (view l.fn.whole).taken l.left.items)
