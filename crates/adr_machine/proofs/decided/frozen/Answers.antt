use Rattle.std.proofs.Common.{◌≡◌, Ok, sym, ap, subst, ◌∙◌}
use Rattle.adr_view.specs.Frozen.{freeze}
use Rattle.adr_queries.specs.declared.answer.Answer.TheVariants as answer
use Rattle.adr_objects.specs.declared.shown.FrozenObject.{FrozenObject}
use Rattle.adr_queries.specs.Frozen.{frozen_object}
use Rattle.adr_machine.specs.declared.outcome.Outcome.TheVariants as outcome
use Rattle.adr_machine.specs.Edits.{of_portfolio, frozen_outcome, carried_out_on}
use Rattle.adr_machine.proofs.Outcomes.{of_decision}
use Rattle.adr_machine.proofs.decided.frozen.Goals as goal

pub returns-clause-ok : goal.returns-clause-ok
returns-clause-ok c =
    let base = c.args.base.now in
    let after = c.freeze.new.portfolio in
    let decision = freeze c.args.limits.now c.args.event.now base.mirror base.portfolio in
    subst (λ (object : FrozenObject). carried_out_on base (of_portfolio (frozen_outcome c.args.event.now) decision) ≡ Ok (outcome.Told (answer.Frozen object), record base { portfolio = after })) (sym (c.in_ok-object.ensures ∙ ap (frozen_object c.args.event.now) c.as_slice.ensures))
    (of_decision (frozen_outcome c.args.event.now) base after c.in_ok-pairs.pairs decision c.in_ok-pairs.ensures.ok)
