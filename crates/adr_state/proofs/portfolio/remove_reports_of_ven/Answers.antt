use Rattle.std.proofs.Common.{not, rules}
use Rattle.adr_text.proofs.Kept.{kept_by_test}
use Rattle.adr_state.specs.Portfolios.{is_of_ven}
use Rattle.adr_state.proofs.portfolio.remove_reports_of_ven.Goals as goal

-- the closure only tests
pub returns : goal.returns
returns c = kept_by_test _ (λ r. not (is_of_ven c.args.ven c.args.resources.now r.1.body.head.resource)) _ (λ key weight answer after next taken. search rules) _ _ c.retain.ensures.kept
