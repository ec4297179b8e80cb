use Rattle.adr_schema.proofs.LawLemmas.{usage_is_small}
use Rattle.adr_schema.proofs.laws.usage_is_small_when_read.Goals as goal

pub returns : goal.returns
returns c = usage_is_small
