use Rattle.adr_subscription.proofs.KeptTexts.{kept_is_posted}
use Rattle.adr_subscription.proofs.laws.kept_is_posted.Goals as goal

pub returns : goal.returns
returns c = kept_is_posted
