use Rattle.crossbeam_queue.specs.Passes.{view, ruled_capacity}
use Rattle.adr_work.proofs.Fairness.{puts}
use Rattle.adr_work.proofs.queue.JobQueue.put.Goals as goal

pub push_as-done-requires-clause-rule : goal.push_as-done-requires-clause-rule
push_as-done-requires-clause-rule g c = (puts (ruled_capacity c.args.self.now.ring) c.args.seat.now.id (view c.args.seat.now) c.args.job c.requires.1, λ items views b at. tt)
