use Rattle.adr_schema.proofs.LawLemmas.{usage_intervals_differ}
use Rattle.adr_schema.proofs.laws.usage_intervals_differ_when_read.Goals as goal

pub returns : goal.returns
returns c = usage_intervals_differ
