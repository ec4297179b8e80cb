use Rattle.std.proofs.Common.{[], ◌∷◌, refl, arith}
use Rattle.adr_db.proofs.Common.{Forbidden}
use Rattle.adr_db.proofs.Results.{handed_on}
use Rattle.adr_text.specs.declared.refusal.Refusal.TheVariants.{NotFound}
use Rattle.adr_view.specs.Subs.{sub_delete}
use Rattle.adr_machine.specs.declared.command.Command.TheVariants as command
use Rattle.adr_machine.specs.Edits.{sub_outcome}
use Rattle.adr_machine.specs.Listed.{listed}
use Rattle.adr_desk.proofs.AnswerLemmas.{along_answered}
use Rattle.adr_desk.proofs.CoverLemmas.{sub_delete_covers}
use Rattle.adr_desk.proofs.DecisionLemmas.{asks_nothing, sight_carries, unseen_carries}
use Rattle.adr_desk.proofs.ListedLemmas.{Listed, one_of_listed, along_one_of}
use Rattle.adr_desk.proofs.subs.sub_delete.Goals as goal

-- who sees nothing is refused
pub returns-in_err-sight-clause-carries : goal.returns-in_err-sight-clause-carries
returns-in_err-sight-clause-carries g c =
    let mid = c.sight_in.new.tx.conn.now in
    unseen_carries g.S.Store c.args.tx.now.conn.now c.args.tx.now.conn.now mid mid sub_outcome (λ sight mirror p. sub_delete sight c.args.id.now p) c.args.role.now _ (asks_nothing g.S.Store c.args.tx.now.conn.now) (λ clean. omega (arith, clean, c.sight_in.ensures.lent.stays.crash.clean)) c.args.meta.now c.args.meta.now c.in_err-sight.field-0.0 c.from_residual.result c.from_residual.ensures.1 (λ clean. clean) c.in_err-sight.ensures.refuses

pub returns-in_err-sight-clause-listed : goal.returns-in_err-sight-clause-listed
returns-in_err-sight-clause-listed g c =
    let these = listed (command.SubDelete c.args.role.now c.args.id.now) in
    let e = c.in_err-sight.field-0.0 in
    handed_on (Listed these) c.from_residual.result e c.from_residual.ensures.1 (one_of_listed these (Forbidden ∷ []) ((0, omega arith, refl), tt) e c.in_err-sight.ensures.refused)

pub returns-clause-carries : goal.returns-clause-carries
returns-clause-carries g c =
    rw (c.along.ensures, c.of_sub.ensures)
    (sight_carries g.S.Store c.args.tx.now.conn.now c.args.tx.now.conn.now c.sight_in.new.tx.conn.now c.delete.new.tx.conn.now sub_outcome (λ sight mirror p. sub_delete sight c.args.id.now p) c.args.role.now _ (asks_nothing g.S.Store c.args.tx.now.conn.now) (λ clean. omega (arith, clean, c.sight_in.ensures.lent.stays.crash.clean)) c.in_ok-sight.sight c.args.meta.now c.delete.new.meta c.delete.result
    (λ clean. omega (arith, clean, c.delete.ensures.lent.stays.crash.clean)) c.in_ok-sight.ensures.finds c.delete.ensures.carries c.delete.ensures.refuses c.none.result (λ base right x change said is. sub_delete_covers c.none.result c.none.ensures.covers base change c.in_ok-sight.sight c.args.id.now base.portfolio x is))

pub returns-clause-answered : goal.returns-clause-answered
returns-clause-answered g c = rw (c.along.ensures, c.of_sub.ensures) (along_answered (command.SubDelete c.args.role.now c.args.id.now) sub_outcome (λ x before after. tt) c.none.result c.delete.result)

pub returns-clause-listed : goal.returns-clause-listed
returns-clause-listed g c = rw (c.along.ensures, c.of_sub.ensures) (along_one_of (listed (command.SubDelete c.args.role.now c.args.id.now)) sub_outcome c.none.result (NotFound ∷ Forbidden ∷ []) ((1, omega arith, refl), ((0, omega arith, refl), tt)) c.delete.result c.delete.ensures.refused)
