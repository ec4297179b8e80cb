use Rattle.std.proofs.Common.{not, ◌==◌, rules}
use Rattle.adr_text.proofs.Kept.{kept_by_test}
use Rattle.adr_state.proofs.portfolio.Resources.remove_of.Goals as goal

-- the closure only tests
pub returns : goal.returns
returns c = rw (← c.self.view_is) (kept_by_test _ (λ r. not (r.1.ven == c.args.ven)) _ (λ number resource answer after next taken. search rules) _ _ c.retain.ensures.kept)
