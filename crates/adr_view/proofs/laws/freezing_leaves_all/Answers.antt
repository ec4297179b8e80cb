use Rattle.adr_view.proofs.FrozenLemmas.{freezing_leaves}
use Rattle.adr_view.proofs.laws.freezing_leaves_all.Goals as goal

pub returns : goal.returns
returns c = freezing_leaves
