use Rattle.adr_held.proofs.RightLemmas.{step_stays}
use Rattle.adr_held.proofs.laws.right_stays.Goals as goal

pub returns : goal.returns
returns c = step_stays
