use Rattle.std.proofs.Common.{refl, arith}
use Rattle.adr_db.proofs.Results.{handed_on}
use Rattle.adr_machine.specs.declared.command.Command.TheVariants as command
use Rattle.adr_machine.specs.Listed.{listed}
use Rattle.adr_desk.specs.Decisions.{sub_put_again}
use Rattle.adr_desk.proofs.DecisionLemmas.{unsettled_carries, settled_carries}
use Rattle.adr_desk.proofs.ListedLemmas.{Listed, unsettled_listed}
use Rattle.adr_desk.proofs.subs.sub_put.Goals as goal

pub returns-in_err-body-clause-carries : goal.returns-in_err-body-clause-carries
returns-in_err-body-clause-carries g c =
    let now = c.args.tx.now.conn.now in
    unsettled_carries g.S.Store now now c.args.sub.now (sub_put_again c.args.now c.args.role.now c.args.id.now) c.args.meta.now c.args.meta.now c.in_err-body.field-0.0 c.from_residual.result c.from_residual.ensures.1 c.in_err-body.ensures.gives

pub returns-in_err-body-clause-listed : goal.returns-in_err-body-clause-listed
returns-in_err-body-clause-listed g c =
    let these = listed (command.SubPut c.args.role.now c.args.id.now c.args.sub.now) in
    let e = c.in_err-body.field-0.0 in
    handed_on (Listed these) c.from_residual.result e c.from_residual.ensures.1 (unsettled_listed these (0, omega arith, refl) c.args.sub.now e c.in_err-body.ensures.gives)

pub returns-clause-carries : goal.returns-clause-carries
returns-clause-carries g c =
    settled_carries g.S.Store c.args.tx.now.conn.now c.replaced.new.tx.conn.now c.args.sub.now (sub_put_again c.args.now c.args.role.now c.args.id.now) c.args.meta.now c.replaced.new.meta c.in_ok-body.body c.replaced.result c.in_ok-body.ensures.gives c.replaced.ensures.carries
