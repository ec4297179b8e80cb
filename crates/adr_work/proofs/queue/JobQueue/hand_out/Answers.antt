use Rattle.crossbeam_queue.specs.Passes.{view}
use Rattle.adr_work.proofs.Fairness.{forks}
use Rattle.adr_work.proofs.queue.JobQueue.hand_out.Goals as goal

pub another-requires-clause-rule : goal.another-requires-clause-rule
another-requires-clause-rule c = forks c.args.whole.now.id (view c.args.whole.now) c.requires.1
