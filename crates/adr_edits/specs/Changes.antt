-- What is left of a decision that is only a change, or an answer with one.
use Rattle.std.specs.Prelude.{Result, Ok}
use Rattle.adr_text.specs.Refusals.{◌>>=◌}
use Rattle.adr_text.specs.declared.refusal.Refusal.{Refusal}
use Rattle.adr_state.specs.declared.base.Base.{Base}
use Rattle.adr_state.specs.declared.portfolio.Portfolio.{Portfolio}
use Rattle.adr_state.specs.BaseChanges.{BaseChange, changed}
use Rattle.adr_state.specs.Portfolios.{PortfolioChange, portfolio_after}

-- the base after a change
abbrev pub base_left : Base → Result BaseChange Refusal → Result Base Refusal
base_left base decision = decision >>= λ change. Ok (changed change base)

-- an answer, and the base after the change
abbrev pub answer_left : {A : Type 0} → Base → Result (A × BaseChange) Refusal → Result (A × Base) Refusal
answer_left base decision = decision >>= λ d. Ok (d.0, changed d.1 base)

-- the portfolio after a change
abbrev pub portfolio_left : Portfolio → Result PortfolioChange Refusal → Result Portfolio Refusal
portfolio_left p decision = decision >>= λ change. Ok (portfolio_after change p)
