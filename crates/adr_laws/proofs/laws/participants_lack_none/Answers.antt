use Rattle.adr_laws.proofs.EnrolledLemmas.{lack_none}
use Rattle.adr_laws.proofs.laws.participants_lack_none.Goals as goal

pub returns : goal.returns
returns c = lack_none
