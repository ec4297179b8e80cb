use Rattle.adr_notices.proofs.LawLemmas.{in_sight}
use Rattle.adr_notices.proofs.laws.told_is_in_sight.Goals as goal

pub returns : goal.returns
returns c = in_sight
