use Rattle.adr_subscription.proofs.KeptTexts.{kept_reads_back}
use Rattle.adr_subscription.proofs.laws.kept_texts_read_back.Goals as goal

pub returns : goal.returns
returns c = kept_reads_back
