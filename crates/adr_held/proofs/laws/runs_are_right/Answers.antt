use Rattle.adr_held.proofs.RightLemmas.{runs_right}
use Rattle.adr_held.proofs.laws.runs_are_right.Goals as goal

pub returns : goal.returns
returns c = runs_right
