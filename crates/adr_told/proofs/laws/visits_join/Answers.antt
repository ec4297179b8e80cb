use Rattle.adr_told.proofs.Commits.{joined}
use Rattle.adr_told.proofs.laws.visits_join.Goals as goal

pub returns : goal.returns
returns c = joined
