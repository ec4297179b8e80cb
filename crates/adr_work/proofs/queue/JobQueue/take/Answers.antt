use Rattle.crossbeam_queue.specs.Passes.{view}
use Rattle.adr_work.proofs.Fairness.{takes}
use Rattle.adr_work.proofs.queue.JobQueue.take.Goals as goal

pub pop_as-requires-clause-rule : goal.pop_as-requires-clause-rule
pop_as-requires-clause-rule g c = (takes c.args.seat.now.id (view c.args.seat.now) c.requires.1, λ items views b at. tt)
