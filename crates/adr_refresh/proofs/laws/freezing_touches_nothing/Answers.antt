use Rattle.adr_refresh.proofs.FreezeLemmas.{freezing_touches_none}
use Rattle.adr_refresh.proofs.laws.freezing_touches_nothing.Goals as goal

pub returns : goal.returns
returns c = freezing_touches_none
