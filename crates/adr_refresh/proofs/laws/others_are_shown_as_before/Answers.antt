use Rattle.adr_refresh.proofs.OtherLemmas.{others_as_before}
use Rattle.adr_refresh.proofs.laws.others_are_shown_as_before.Goals as goal

pub returns : goal.returns
returns c = others_as_before
