use Rattle.adr_kept_base.proofs.OwnerLemmas.{as_it_changes}
use Rattle.adr_kept_base.proofs.laws.kept_as_it_changes.Goals as goal

pub returns : goal.returns
returns c = as_it_changes
