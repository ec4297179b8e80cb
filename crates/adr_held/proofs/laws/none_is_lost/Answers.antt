use Rattle.adr_held.proofs.UseLemmas.{none_lost}
use Rattle.adr_held.proofs.laws.none_is_lost.Goals as goal

pub returns : goal.returns
returns c = none_lost
