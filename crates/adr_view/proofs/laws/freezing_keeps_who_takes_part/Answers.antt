use Rattle.adr_view.proofs.FrozenLemmas.{freezing_keeps}
use Rattle.adr_view.proofs.laws.freezing_keeps_who_takes_part.Goals as goal

pub returns : goal.returns
returns c = freezing_keeps
