use Rattle.std.proofs.Common.{arith}
use Rattle.adr_state.specs.Resources.{resource_put}
use Rattle.adr_machine.specs.Edits.{resource_outcome}
use Rattle.adr_desk.proofs.AnswerLemmas.{along_answered}
use Rattle.adr_desk.proofs.CoverLemmas.{resource_put_covers}
use Rattle.adr_desk.proofs.DecisionLemmas.{portfolio_carries, store_carries}
use Rattle.adr_desk.proofs.sites.resource_put.Goals as goal

pub returns-in_err-touched-clause-carries : goal.returns-in_err-touched-clause-carries
returns-in_err-touched-clause-carries g c = store_carries g.S.Store _ _ _ _ _ c.in_err-touched.field-0.0 c.from_residual.result c.from_residual.ensures.1 c.in_err-touched.ensures.refused

pub returns-clause-carries : goal.returns-clause-carries
returns-clause-carries g c =
    rw (c.along.ensures, c.of_resource.ensures)
    (portfolio_carries g.S.Store c.args.tx.now.conn.now c.by_resource.new.tx.conn.now c.resource_put.new.tx.conn.now _ c.in_ok-touched.ensures.finds (λ clean. omega (arith, clean, c.resource_put.ensures.lent.stays.crash.clean)) resource_outcome (resource_put c.args.now c.args.ven.now c.args.id.now c.args.resource.now.name) c.in_ok-touched.touched c.args.meta.now c.resource_put.new.meta c.resource_put.result
    c.resource_put.ensures.carries c.resource_put.ensures.refuses (λ base covers x change is. resource_put_covers c.in_ok-touched.touched base base.portfolio change c.args.now c.args.ven.now c.args.id.now c.args.resource.now.name x is covers))

pub returns-clause-answered : goal.returns-clause-answered
returns-clause-answered g c command = rw (c.along.ensures, c.of_resource.ensures) (along_answered command resource_outcome (λ x before after. tt) c.in_ok-touched.touched c.resource_put.result)
