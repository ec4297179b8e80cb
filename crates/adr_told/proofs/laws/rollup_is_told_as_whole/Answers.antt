use Rattle.adr_told.proofs.RolledUp.{rollup_as_whole}
use Rattle.adr_told.proofs.laws.rollup_is_told_as_whole.Goals as goal

pub returns : goal.returns
returns c = rollup_as_whole
