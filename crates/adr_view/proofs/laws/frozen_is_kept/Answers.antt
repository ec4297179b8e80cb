use Rattle.adr_view.proofs.FrozenLemmas.{frozen_is_kept}
use Rattle.adr_view.proofs.laws.frozen_is_kept.Goals as goal

pub returns : goal.returns
returns c = frozen_is_kept
