use Rattle.adr_told.proofs.Objects.{object_as_whole}
use Rattle.adr_told.proofs.laws.object_is_told_as_whole.Goals as goal

pub returns : goal.returns
returns c = object_as_whole
