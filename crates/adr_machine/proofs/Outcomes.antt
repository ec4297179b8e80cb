-- What comes of a decision on the portfolio that is told, carried out on the base.
use Rattle.std.proofs.Common.{◌≡◌, Result, Ok, Err, IfOk, sym, ap, subst}
use Rattle.adr_text.specs.Refusals.{◌>>=◌}
use Rattle.adr_text.specs.declared.refusal.Refusal.{Refusal}
use Rattle.adr_state.specs.declared.base.Base.{Base}
use Rattle.adr_state.specs.declared.portfolio.Portfolio.{Portfolio}
use Rattle.adr_state.specs.Portfolios.{PortfolioChange, portfolio_after, carried_out}
use Rattle.adr_view.specs.declared.sight.Sight.{Sight}
use Rattle.adr_machine.specs.declared.outcome.Outcome.{Outcome}
use Rattle.adr_machine.specs.Edits.{of_portfolio, told_by, carried_out_on}

module _ {A : Type 0} (comes : A → Outcome) (base : Base) (after : Portfolio) where
  -- the base with another portfolio
  abbrev left : Base
  left = record base { portfolio = after }

  pub of_decision : (x : A) (decision : Result (A × PortfolioChange) Refusal) → carried_out base.portfolio decision ≡ Ok (x, after) → carried_out_on base (of_portfolio comes decision) ≡ Ok (comes x, left)
  of_decision x (Ok d) h =
      let same : (d.0, portfolio_after d.1 base.portfolio) ≡ (x, after) = cc in
      let made : A × Portfolio → Result (Outcome × Base) Refusal = λ e. Ok (comes e.0, record base { portfolio = e.1 }) in
      ap made same
  of_decision x (Err e) h = absurd (cc)

  -- by who sees this much
  pub told_seen : (decide : Sight → Result (A × PortfolioChange) Refusal) (seen : Result Sight Refusal) (sight : Sight) (said : Result A Refusal) → seen ≡ Ok sight → IfOk said (λ x. carried_out base.portfolio (decide sight) ≡ Ok (x, after))
      → IfOk (told_by comes said) (λ o. carried_out_on base (seen >>= λ s. of_portfolio comes (decide s)) ≡ Ok (o, left))
  told_seen decide seen sight (Ok x) is h = subst (λ r. carried_out_on base (r >>= λ s. of_portfolio comes (decide s)) ≡ Ok (comes x, left)) (sym is) (of_decision x (decide sight) h)
  told_seen decide seen sight (Err e) is h = tt
