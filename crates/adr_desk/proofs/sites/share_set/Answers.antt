use Rattle.std.proofs.Common.{arith}
use Rattle.adr_state.specs.Shares.{share_set}
use Rattle.adr_machine.specs.Edits.{share_outcome}
use Rattle.adr_desk.proofs.AnswerLemmas.{along_answered}
use Rattle.adr_desk.proofs.CoverLemmas.{share_set_covers}
use Rattle.adr_desk.proofs.DecisionLemmas.{portfolio_carries, store_carries}
use Rattle.adr_desk.proofs.sites.share_set.Goals as goal

pub returns-in_err-touched-clause-carries : goal.returns-in_err-touched-clause-carries
returns-in_err-touched-clause-carries g c = store_carries g.S.Store _ _ _ _ _ c.in_err-touched.field-0.0 c.from_residual.result c.from_residual.ensures.1 c.in_err-touched.ensures.refused

pub returns-clause-carries : goal.returns-clause-carries
returns-clause-carries g c =
    rw (c.along.ensures, c.of_share.ensures)
    (portfolio_carries g.S.Store c.args.tx.now.conn.now c.touched_by_share.new.tx.conn.now c.share_set.new.tx.conn.now _ c.in_ok-touched.ensures.finds (λ clean. omega (arith, clean, c.share_set.ensures.lent.stays.crash.clean)) share_outcome (share_set c.args.limits.now c.args.program.now c.args.resource.now c.args.share.now.share) c.in_ok-touched.touched c.args.meta.now c.share_set.new.meta c.share_set.result
    c.share_set.ensures.carries c.share_set.ensures.refuses (λ base covers x change is. share_set_covers c.in_ok-touched.touched base base.portfolio change c.args.limits.now c.args.program.now c.args.resource.now c.args.share.now.share x is covers))

pub returns-clause-answered : goal.returns-clause-answered
returns-clause-answered g c command = rw (c.along.ensures, c.of_share.ensures) (along_answered command share_outcome (λ x before after. tt) c.in_ok-touched.touched c.share_set.result)
