use Rattle.adr_kept_base.proofs.OwnerLemmas.{of_nothing}
use Rattle.adr_kept_base.proofs.laws.kept_of_nothing.Goals as goal

pub returns : goal.returns
returns c = of_nothing
