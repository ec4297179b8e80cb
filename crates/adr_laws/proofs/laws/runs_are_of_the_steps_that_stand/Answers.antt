use Rattle.adr_laws.proofs.RunLemmas.{runs_of_the_steps}
use Rattle.adr_laws.proofs.laws.runs_are_of_the_steps_that_stand.Goals as goal

pub returns : goal.returns
returns c = runs_of_the_steps
