use Rattle.std.proofs.Common.{◌∙◌, ap, subst, Result}
use Rattle.adr_text.specs.Refusals.{Gives}
use Rattle.adr_text.specs.declared.refusal.Refusal.{Refusal}
use Rattle.adr_subscription.specs.declared.subscription.SubIn.{SubIn}
use Rattle.adr_subscription.specs.Kept.{kept_of}
use Rattle.adr_subscription.proofs.KeptTexts.{kept_is_posted}
use Rattle.adr_subscription.proofs.kept.read_kept.Goals as goal

-- the bytes of a text are UTF-8
pub returns : goal.returns
returns c =
    subst (λ (reading : Result SubIn Refusal). Gives (λ sub. sub) c.read_sub.result reading)
    (kept_is_posted c.as_bytes.result.now c.as_bytes.ensures.utf8 ∙ ap kept_of c.as_bytes.ensures.value) c.read_sub.ensures
