use Rattle.std.proofs.Common.{ap, ◌+◌, ◌∙◌}
use Rattle.std.proofs.lemmas.Result.{IfErr-weaker}
use Rattle.adr_db.specs.declared.meta.Meta.{Meta}
use Rattle.adr_db.proofs.Results.{handed_on, on_then}
use Rattle.adr_machine.specs.Listed.{listed}
use Rattle.adr_machine.proofs.Listed.{drawn_listed}
use Rattle.adr_desk.proofs.After.{after_made, after_refused}
use Rattle.adr_desk.proofs.DecisionLemmas.{decision_refused, draw_refused, is_edited}
use Rattle.adr_desk.proofs.ListedLemmas.{Listed, contained_listed}
use Rattle.adr_desk.proofs.step.numbered.Goals as goal

pub returns-in_err-said-clause-refuses : goal.returns-in_err-said-clause-refuses
returns-in_err-said-clause-refuses g c clean =
    let e = c.in_err-said.field-0.0 in
    handed_on _ c.from_residual.result e c.from_residual.ensures.1 (λ beside base was same.
    let next = c.next-number.ensures ∙ ap (λ (m : Meta). m.serial + 1) same in
    decision_refused c.args.limits.now c.args.now c.args.command.now base c.next-number.result next e (c.in_err-said.ensures.carries.refuses clean beside base was same))

pub returns-clause-makes : goal.returns-clause-makes
returns-clause-makes g c clean =
    rw c.after.ensures (after_made c.in_ok-said.said _ c.draw-drawn.result (on_then c.draw-drawn.result (λ left beside base was same.
    let next = c.next-number.ensures ∙ ap (λ (m : Meta). m.serial + 1) same in
    is_edited c.args.limits.now c.args.now c.args.command.now base c.next-number.result next beside c.args.meta.now c.carry_out.new.meta c.in_ok-said.said.0 c.in_ok-said.said.1 _ (c.in_ok-said.ensures.carries.decides clean beside base was same) c.draw-drawn.new.self (rw c.draws_number.ensures at left)) c.draw-drawn.ensures.ok))

pub returns-clause-refuses : goal.returns-clause-refuses
returns-clause-refuses g c clean =
    rw c.after.ensures (after_refused c.in_ok-said.said _ c.draw-drawn.result (IfErr-weaker c.draw-drawn.result _ _ (λ e refused beside base was same.
    let next = c.next-number.ensures ∙ ap (λ (m : Meta). m.serial + 1) same in
    draw_refused c.args.limits.now c.args.now c.args.command.now base c.next-number.result next beside c.args.meta.now c.carry_out.new.meta c.in_ok-said.said.0 c.in_ok-said.said.1 _ (c.in_ok-said.ensures.carries.decides clean beside base was same) e (rw c.draws_number.ensures at refused)) c.draw-drawn.ensures.err))

pub returns-clause-listed : goal.returns-clause-listed
returns-clause-listed g c =
    let these = listed c.args.command.now in
    rw c.after.ensures (after_refused c.in_ok-said.said _ c.draw-drawn.result (IfErr-weaker c.draw-drawn.result _ (Listed these) (λ e refused.
    contained_listed these e (rw (rw c.draws_number.ensures at refused) at (drawn_listed c.args.limits.now c.carry_out.new.meta.serial c.args.command.now))) c.draw-drawn.ensures.err))
