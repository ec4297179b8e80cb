use Rattle.std.proofs.Common.{◌+◌, nat_lt, ℕ, List, length, Err, refl, sym, ap, ap₂, ◌∙◌}
use Rattle.std.proofs.lemmas.Bool.{not-true, not-false}
use Rattle.adr_db.proofs.Common.{LimitReached}
use Rattle.adr_db.specs.declared.meta.Meta.{Meta}
use Rattle.adr_db.proofs.Results.{handed_on, refused_so, passed, stopped}
use Rattle.adr_state.specs.Portfolios.{Freeze}
use Rattle.adr_frozen.proofs.freezing.frozen_within.Goals as goal

pub returns-in_err-unless-clause-refuses : goal.returns-in_err-unless-clause-refuses
returns-in_err-unless-clause-refuses g c clean =
    let e = c.in_err-unless.field-0.0 in
    let none = stopped LimitReached _ e (sym c.unless.ensures.gives ∙ c.in_err-unless.was) in
    handed_on _ c.from_residual.result e c.from_residual.ensures.1 (λ beside base was same.
    let beyond = c.are_beyond.ensures ∙ ap₂ (λ (kept : ℕ) (pairs : List (ℕ × ℕ)). nat_lt c.args.limits.now.frozen (kept + length pairs)) (ap (λ (m : Meta). m.frozen) same) c.as_slice.ensures in
    refused_so e _ (rw (sym beyond ∙ not-false _ none.0) (ap Err (sym none.1))))

pub returns-clause-carries : goal.returns-clause-carries
returns-clause-carries g c clean beside base was same can =
    let beyond = c.are_beyond.ensures ∙ ap₂ (λ (kept : ℕ) (pairs : List (ℕ × ℕ)). nat_lt c.args.limits.now.frozen (kept + length pairs)) (ap (λ (m : Meta). m.frozen) same) c.as_slice.ensures in
    record {
      change = Freeze c.args.id.now c.args.pairs;
      decided = rw (sym beyond ∙ not-true _ (passed LimitReached _ _ (sym c.unless.ensures.gives ∙ c.in_ok-unless.was))) refl;
      left = (rw c.as_slice-2.ensures at c.in_ok-freeze.ensures.counts) clean beside base was same can;
    }
