use Rattle.std.proofs.Common.{not, ◌==◌, rules}
use Rattle.adr_text.proofs.Kept.{kept_by_test}
use Rattle.adr_state.proofs.portfolio.remove_frozen_of.Goals as goal

-- the closure only tests
pub returns : goal.returns
returns c = kept_by_test _ (λ s. not (s.0.resource == c.args.resource)) _ (λ key weight answer after next taken. search rules) _ _ c.retain.ensures.kept
