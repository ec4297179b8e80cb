use Rattle.std.proofs.Common.{Result, arith, sym, ◌∙◌}
use Rattle.adr_text.specs.declared.refusal.Refusal.{Refusal}
use Rattle.adr_state.specs.declared.base.Base.{Base}
use Rattle.adr_db.proofs.Common.{state, HasCleanDisk}
use Rattle.adr_db.specs.Bases.{kept_beside}
use Rattle.adr_db.proofs.Results.{handed_on, found_so, refused_then, then_refused}
use Rattle.adr_held.specs.Held.{beside_of}
use Rattle.adr_outbox.specs.Turned.{with_outbox}
use Rattle.adr_machine.specs.declared.outcome.Outcome.{Outcome}
use Rattle.adr_machine.specs.Edits.{edit_of}
use Rattle.adr_machine.specs.Listed.{listed}
use Rattle.adr_desk.proofs.DecisionLemmas.{numbers_read}
use Rattle.adr_desk.proofs.ListedLemmas.{contained_all}
use Rattle.adr_desk.proofs.MadeLemmas.{numbers_so, is_made}
use Rattle.adr_desk.proofs.StepLemmas.{telling_refused, is_committed, step_refused}
use Rattle.adr_desk.proofs.step.committed.Goals as goal

pub returns-in_err-said-clause-refuses : goal.returns-in_err-said-clause-refuses
returns-in_err-said-clause-refuses g c clean =
    let e = c.in_err-said.field-0.0 in
    handed_on _ c.from_residual.result e c.from_residual.ensures.1 (λ held was same.
    then_refused e (edit_of c.args.settings.now.limits c.args.now held.base c.args.command.now) _ (c.in_err-said.ensures.refuses clean (beside_of held) held.base was.keeps (numbers_read held c.args.meta.now same)))

pub returns-in_err-many-clause-refuses : goal.returns-in_err-many-clause-refuses
returns-in_err-many-clause-refuses g c clean =
    let second : HasCleanDisk (state g.S.Store c.stamps_of.new.tx.conn.now) = omega (arith, clean, c.tell.ensures.lent.stays.crash.clean) in
    let first : HasCleanDisk (state g.S.Store c.numbered.new.tx.conn.now) = omega (arith, second, c.stamps_of.ensures.lent.stays.crash.clean) in
    let settings = c.args.settings.now in
    let command = c.args.command.now in
    let edit : Base → Result (Outcome × Base) Refusal = λ base. edit_of settings.limits c.args.now base command in
    let e = c.in_err-many.field-0.0 in
    handed_on _ c.from_residual-in_err-many.result e c.from_residual-in_err-many.ensures.1 (λ held was same.
    let made = c.in_ok-said.ensures.makes first (beside_of held) held.base was.keeps (numbers_read held c.args.meta.now same) in
    let stood = c.in_ok-before.ensures.finds second (kept_beside (beside_of held) made.next) made.holds in
    let now_it = is_made settings c.args.now command held c.in_ok-said.said c.in_ok-said.touched (state g.S.Store c.args.tx.now.conn.now) (state g.S.Store c.numbered.new.tx.conn.now) was c.args.meta.now c.numbered.new.meta same made in
    let counted = numbers_so settings c.args.now command held c.in_ok-said.said c.in_ok-said.touched (state g.S.Store c.args.tx.now.conn.now) (state g.S.Store c.numbered.new.tx.conn.now) was c.args.meta.now c.numbered.new.meta same made in
    telling_refused settings edit c.args.now held c.in_ok-said.said made.next made.edited c.numbered.new.meta counted e (c.in_err-many.ensures.refuses clean held.base made.next (beside_of held) stood.1 now_it))

pub returns-clause-makes : goal.returns-clause-makes
returns-clause-makes g c clean =
    let third : HasCleanDisk (state g.S.Store c.tell.new.tx.conn.now) = omega (arith, clean, c.stamps_of-2.ensures.lent.stays.crash.clean) in
    let second : HasCleanDisk (state g.S.Store c.stamps_of.new.tx.conn.now) = omega (arith, third, c.tell.ensures.lent.stays.crash.clean) in
    let first : HasCleanDisk (state g.S.Store c.numbered.new.tx.conn.now) = omega (arith, second, c.stamps_of.ensures.lent.stays.crash.clean) in
    let settings = c.args.settings.now in
    let command = c.args.command.now in
    let edit : Base → Result (Outcome × Base) Refusal = λ base. edit_of settings.limits c.args.now base command in
    found_so c.answered.result (λ answer is held was same.
    let made = c.in_ok-said.ensures.makes first (beside_of held) held.base was.keeps (numbers_read held c.args.meta.now same) in
    let stood = c.in_ok-before.ensures.finds second (kept_beside (beside_of held) made.next) made.holds in
    let now_it = is_made settings c.args.now command held c.in_ok-said.said c.in_ok-said.touched (state g.S.Store c.args.tx.now.conn.now) (state g.S.Store c.numbered.new.tx.conn.now) was c.args.meta.now c.numbered.new.meta same made in
    let counted = numbers_so settings c.args.now command held c.in_ok-said.said c.in_ok-said.touched (state g.S.Store c.args.tx.now.conn.now) (state g.S.Store c.numbered.new.tx.conn.now) was c.args.meta.now c.numbered.new.meta same made in
    let told = c.in_ok-many.ensures.keeps third held.base made.next (beside_of held) stood.1 now_it in
    let after = c.in_ok-after.ensures.finds clean (with_outbox told.outbox (kept_beside told.end made.next)) told.holds in
    is_committed settings edit c.args.now held c.in_ok-said.said made.next made.edited c.numbered.new.meta counted c.tell.new.meta c.in_ok-many.many (state g.S.Store c.tell.new.tx.conn.now) (state g.S.Store c.stamps_of-2.new.tx.conn.now) told c.args.meta.now same answer
    (sym (c.answered.ensures.answers held.stamps told.end.stamps stood.0 after.0) ∙ is) after.1)

pub returns-clause-refuses : goal.returns-clause-refuses
returns-clause-refuses g c clean =
    let third : HasCleanDisk (state g.S.Store c.tell.new.tx.conn.now) = omega (arith, clean, c.stamps_of-2.ensures.lent.stays.crash.clean) in
    let second : HasCleanDisk (state g.S.Store c.stamps_of.new.tx.conn.now) = omega (arith, third, c.tell.ensures.lent.stays.crash.clean) in
    let first : HasCleanDisk (state g.S.Store c.numbered.new.tx.conn.now) = omega (arith, second, c.stamps_of.ensures.lent.stays.crash.clean) in
    let settings = c.args.settings.now in
    let command = c.args.command.now in
    let edit : Base → Result (Outcome × Base) Refusal = λ base. edit_of settings.limits c.args.now base command in
    refused_then c.answered.result (λ e is held was same.
    let made = c.in_ok-said.ensures.makes first (beside_of held) held.base was.keeps (numbers_read held c.args.meta.now same) in
    let stood = c.in_ok-before.ensures.finds second (kept_beside (beside_of held) made.next) made.holds in
    let now_it = is_made settings c.args.now command held c.in_ok-said.said c.in_ok-said.touched (state g.S.Store c.args.tx.now.conn.now) (state g.S.Store c.numbered.new.tx.conn.now) was c.args.meta.now c.numbered.new.meta same made in
    let counted = numbers_so settings c.args.now command held c.in_ok-said.said c.in_ok-said.touched (state g.S.Store c.args.tx.now.conn.now) (state g.S.Store c.numbered.new.tx.conn.now) was c.args.meta.now c.numbered.new.meta same made in
    let told = c.in_ok-many.ensures.keeps third held.base made.next (beside_of held) stood.1 now_it in
    let after = c.in_ok-after.ensures.finds clean (with_outbox told.outbox (kept_beside told.end made.next)) told.holds in
    step_refused settings edit c.args.now held c.in_ok-said.said made.next made.edited c.numbered.new.meta counted c.tell.new.meta c.in_ok-many.many (state g.S.Store c.tell.new.tx.conn.now) (state g.S.Store c.stamps_of-2.new.tx.conn.now) told e
    (sym (c.answered.ensures.answers held.stamps told.end.stamps stood.0 after.0) ∙ is))

pub returns-clause-listed : goal.returns-clause-listed
returns-clause-listed g c = contained_all (listed c.args.command.now) c.answered.result (c.answered.ensures.listed c.args.command.now c.in_ok-said.ensures.answered)
