use Rattle.adr_laws.proofs.SightLemmas.{objects_lack_none, shown_is_told}
use Rattle.adr_laws.proofs.laws.objects_lack_none.Goals as goal

pub returns-clause-listed : goal.returns-clause-listed
returns-clause-listed c = objects_lack_none

pub returns-clause-one : goal.returns-clause-one
returns-clause-one c = shown_is_told
