use Rattle.std.proofs.Common.{rules}
use Rattle.adr_text.proofs.Kept.{kept_by_test}
use Rattle.adr_delivery.specs.Outboxes.{has_addressee}
use Rattle.adr_delivery.proofs.append.keep_addressed.Goals as goal

-- the closure only tests
pub returns-clause-kept : goal.returns-clause-kept
returns-clause-kept g c = kept_by_test _ (has_addressee c.args.subscriptions.now) _ (λ number entry answer after next taken. search rules) _ _ c.retain.ensures.kept
