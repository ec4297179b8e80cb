use Rattle.adr_kept_base.proofs.OwnerLemmas.{once_refreshed}
use Rattle.adr_kept_base.proofs.laws.kept_once_refreshed.Goals as goal

pub returns : goal.returns
returns c = once_refreshed
