use Rattle.std.proofs.Common.{not, rules}
use Rattle.adr_text.proofs.Kept.{kept_by_test}
use Rattle.adr_state.specs.Portfolios.{is_of_ven}
use Rattle.adr_state.proofs.portfolio.remove_frozen_of_ven.Goals as goal

-- the closure only tests
pub returns : goal.returns
returns c = kept_by_test _ (λ s. not (is_of_ven c.args.ven c.args.resources.now s.0.resource)) _ (λ key weight answer after next taken. search rules) _ _ c.retain.ensures.kept
