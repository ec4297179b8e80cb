use Rattle.adr_told.proofs.Commits.{as_computed}
use Rattle.adr_told.proofs.laws.visited_is_as_computed.Goals as goal

pub returns : goal.returns
returns c = as_computed
