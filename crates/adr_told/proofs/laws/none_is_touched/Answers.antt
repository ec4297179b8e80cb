use Rattle.adr_told.proofs.Commits.{none_touched}
use Rattle.adr_told.proofs.laws.none_is_touched.Goals as goal

pub returns : goal.returns
returns c = none_touched
