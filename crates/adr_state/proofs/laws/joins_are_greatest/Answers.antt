use Rattle.adr_state.proofs.LawLemmas.{joins_greatest}
use Rattle.adr_state.proofs.laws.joins_are_greatest.Goals as goal

pub returns : goal.returns
returns c = joins_greatest
