use Rattle.crossbeam_queue.specs.Passes.{view}
use Rattle.adr_work.proofs.Fairness.{merges}
use Rattle.adr_work.proofs.queue.JobQueue.take_back.Goals as goal

pub absorb-requires-clause-rule : goal.absorb-requires-clause-rule
absorb-requires-clause-rule c = merges c.args.whole.now.id (view c.args.whole.now) c.args.seat.id (view c.args.seat) c.requires.2
