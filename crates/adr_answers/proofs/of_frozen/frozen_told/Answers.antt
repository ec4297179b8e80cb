use Rattle.std.proofs.Common.{List, ℕ, Result, Ok, sym, ap, ◌∙◌}
use Rattle.adr_text.specs.Refusals.{◌>>=◌}
use Rattle.adr_text.specs.declared.refusal.Refusal.{Refusal}
use Rattle.adr_db.proofs.Results.{handed_on, then_refused}
use Rattle.adr_queries.specs.declared.answer.Answer.TheVariants as answer
use Rattle.adr_queries.specs.Frozen.{frozen_object}
use Rattle.adr_answers.proofs.of_frozen.frozen_told.Goals as goal

pub returns-in_err-pairs-clause-refuses : goal.returns-in_err-pairs-clause-refuses
returns-in_err-pairs-clause-refuses g c clean =
    let e = c.in_err-pairs.field-0.0 in
    handed_on _ c.from_residual.result e c.from_residual.ensures.1 (λ kept was. then_refused e _ _ (c.in_err-pairs.ensures.refuses clean kept was))

pub returns-clause-finds : goal.returns-clause-finds
returns-clause-finds g c clean kept was =
    let pairs = c.in_ok-pairs.ensures.finds clean kept was in
    (ap (λ (r : Result (List (ℕ × ℕ)) Refusal). r >>= λ pairs. Ok (answer.Frozen (frozen_object c.args.event.now pairs))) pairs.0 ∙ ap Ok (sym (c.in_ok-pairs_told.ensures ∙ ap (λ pairs. answer.Frozen (frozen_object c.args.event.now pairs)) c.as_slice.ensures)), pairs.1)
