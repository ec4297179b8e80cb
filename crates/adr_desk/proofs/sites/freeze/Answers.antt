use Rattle.std.proofs.Common.{inl, ℕ, List, Result, Ok, arith, refl, sym, ap, subst, ◌∙◌}
use Rattle.adr_db.proofs.Common.{state, HasCleanDisk, Refusal, OutOfMemory, PortfolioChange}
use Rattle.adr_db.proofs.Results.{then_refused}
use Rattle.adr_objects.specs.declared.shown.FrozenObject.{FrozenObject}
use Rattle.adr_state.specs.declared.base.Base.{Base}
use Rattle.adr_view.specs.Frozen.{freeze}
use Rattle.adr_queries.specs.Frozen.{frozen_object}
use Rattle.adr_queries.specs.declared.answer.Answer.TheVariants as answer
use Rattle.adr_machine.specs.declared.outcome.Outcome.TheVariants as outcome
use Rattle.adr_machine.specs.Edits.{of_portfolio, frozen_outcome}
use Rattle.adr_desk.specs.Decisions.{CarriesOut}
use Rattle.adr_desk.proofs.CoverLemmas.{freeze_covers}
use Rattle.adr_desk.proofs.DecisionLemmas.{asks_nothing, change_carries, passed_carries, store_carries}
use Rattle.adr_desk.proofs.sites.freeze.Goals as goal

-- a refusal of the decision is handed on
pub returns-in_err-pairs-clause-carries : goal.returns-in_err-pairs-clause-carries
returns-in_err-pairs-clause-carries g c =
    let decide : Base → Result (List (ℕ × ℕ) × PortfolioChange) Refusal = λ base. freeze c.args.limits.now c.args.event.now base.mirror base.portfolio in
    passed_carries g.S.Store c.args.tx.now.conn.now c.freeze.new.tx.conn.now _ c.args.meta.now c.freeze.new.meta c.in_err-pairs.field-0.0 c.from_residual.result c.from_residual.ensures.1 (record {
      decides = λ clean. tt;
      refuses = λ clean beside base was same. then_refused c.in_err-pairs.field-0.0 (decide base) _ (c.in_err-pairs.ensures.refuses clean beside base was same);
    })

pub returns-in_err-object-clause-carries : goal.returns-in_err-object-clause-carries
returns-in_err-object-clause-carries g c = store_carries g.S.Store _ _ _ _ _ OutOfMemory c.from_residual-in_err-object.result c.from_residual-in_err-object.ensures.1 (inl refl)

pub returns-clause-carries : goal.returns-clause-carries
returns-clause-carries g c =
    let old = c.args.tx.now.conn.now in
    let new = c.freeze.new.tx.conn.now in
    let decide : Base → Result (List (ℕ × ℕ) × PortfolioChange) Refusal = λ base. freeze c.args.limits.now c.args.event.now base.mirror base.portfolio in
    subst (λ (object : FrozenObject). CarriesOut g.S.Store old new (λ base. of_portfolio (frozen_outcome c.args.event.now) (decide base)) c.args.meta.now c.freeze.new.meta (Ok (outcome.Told (answer.Frozen object), c.none.result)))
    (sym (c.in_ok-object.ensures ∙ ap (frozen_object c.args.event.now) c.as_slice.ensures))
    (change_carries g.S.Store old old new _ (asks_nothing g.S.Store old) (λ clean. let early : HasCleanDisk (state g.S.Store old) = omega (arith, clean, c.freeze.ensures.lent.stays.crash.clean) in early) (frozen_outcome c.args.event.now) decide c.none.result c.args.meta.now c.freeze.new.meta (Ok c.in_ok-pairs.pairs)
    c.in_ok-pairs.ensures.carries c.in_ok-pairs.ensures.refuses (λ base right x change is. freeze_covers c.none.result c.none.ensures.covers c.args.limits.now c.args.event.now base x change is))
