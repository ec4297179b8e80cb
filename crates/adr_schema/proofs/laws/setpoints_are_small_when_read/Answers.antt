use Rattle.adr_schema.proofs.LawLemmas.{setpoints_small}
use Rattle.adr_schema.proofs.laws.setpoints_are_small_when_read.Goals as goal

pub returns : goal.returns
returns c = setpoints_small
