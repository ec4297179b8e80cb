use Rattle.adr_schema.proofs.LawLemmas.{intervals_differ}
use Rattle.adr_schema.proofs.laws.intervals_differ_when_read.Goals as goal

pub returns : goal.returns
returns c = intervals_differ
