use Rattle.std.proofs.Common.{sym, ◌∙◌}
use Rattle.adr_book.proofs.Leading.{answers_end}
use Rattle.adr_book.proofs.replay.replay.Goals as goal

-- a trail whose next command is refused has no further answers
pub returns-in-None : goal.returns-in-None
returns-in-None c =
    let desk = c.loop-now.desk in
    sym (answers_end desk.settings desk.image c.args.trail.now c.loop-now.now-index c.loop-now-item.result c.loop-now.answers.items c.loop-now-test.true c.loop-now-item.is (rw c.in-None.is at c.in_ok-answer.ensures.refused))
    ∙ c.loop-now.invariant.told
