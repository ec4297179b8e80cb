use Rattle.std.proofs.Common.{not, rules}
use Rattle.adr_text.proofs.Kept.{kept_by_test}
use Rattle.adr_state.specs.Portfolios.{is_sub_of}
use Rattle.adr_state.proofs.portfolio.remove_subs_of.Goals as goal

-- the closure only tests
pub returns : goal.returns
returns c = kept_by_test _ (λ s. not (is_sub_of c.args.ven s.1)) _ (λ number sub answer after next taken. search rules) _ _ c.retain.ensures.kept
