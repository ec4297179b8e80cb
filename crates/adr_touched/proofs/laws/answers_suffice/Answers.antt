use Rattle.adr_touched.proofs.Covered.{suffice}
use Rattle.adr_touched.proofs.laws.answers_suffice.Goals as goal

pub returns : goal.returns
returns c = suffice
