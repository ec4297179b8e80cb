use Rattle.std.proofs.Common.{arith}
use Rattle.adr_state.specs.Vens.{ven_add}
use Rattle.adr_machine.specs.Edits.{ven_outcome}
use Rattle.adr_desk.proofs.AnswerLemmas.{along_answered}
use Rattle.adr_desk.proofs.CoverLemmas.{ven_add_covers}
use Rattle.adr_desk.proofs.DecisionLemmas.{portfolio_carries, store_carries}
use Rattle.adr_desk.proofs.sites.ven_add.Goals as goal

pub returns-in_err-touched-clause-carries : goal.returns-in_err-touched-clause-carries
returns-in_err-touched-clause-carries g c = store_carries g.S.Store _ _ _ _ _ c.in_err-touched.field-0.0 c.from_residual.result c.from_residual.ensures.1 c.in_err-touched.ensures.refused

pub returns-clause-carries : goal.returns-clause-carries
returns-clause-carries g c =
    rw (c.along.ensures, c.of_ven.ensures)
    (portfolio_carries g.S.Store c.args.tx.now.conn.now c.touched_by_ven.new.tx.conn.now c.ven_add.new.tx.conn.now _ c.in_ok-touched.ensures.finds (λ clean. omega (arith, clean, c.ven_add.ensures.lent.stays.crash.clean)) ven_outcome (ven_add c.args.limits.now c.args.now c.args.number c.args.ven.now.name) c.in_ok-touched.touched c.args.meta.now c.ven_add.new.meta c.ven_add.result
    c.ven_add.ensures.carries c.ven_add.ensures.refuses (λ base covers x change is. ven_add_covers c.in_ok-touched.touched base base.portfolio change c.args.limits.now c.args.now c.args.number c.args.ven.now.name x is covers))

pub returns-clause-answered : goal.returns-clause-answered
returns-clause-answered g c command = rw (c.along.ensures, c.of_ven.ensures) (along_answered command ven_outcome (λ x before after. tt) c.in_ok-touched.touched c.ven_add.result)
