use Rattle.adr_touched.proofs.Evidence.{evidence_covered}
use Rattle.adr_touched.proofs.laws.evidence_is_covered.Goals as goal

pub returns : goal.returns
returns c = evidence_covered
