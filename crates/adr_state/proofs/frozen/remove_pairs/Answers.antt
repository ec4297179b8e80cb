use Rattle.std.proofs.Common.{not, rules}
use Rattle.adr_text.proofs.Kept.{kept_by_test}
use Rattle.adr_state.specs.Frozen.{is_of_event}
use Rattle.adr_state.proofs.frozen.remove_pairs.Goals as goal

-- the closure only tests
pub returns : goal.returns
returns c = kept_by_test _ (λ s. not (is_of_event c.args.event.now s)) _ (λ key weight answer after next taken. search rules) _ _ c.retain.ensures.kept
