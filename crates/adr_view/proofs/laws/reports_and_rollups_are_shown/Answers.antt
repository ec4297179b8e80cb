use Rattle.adr_view.proofs.OtherLemmas.{others_shown}
use Rattle.adr_view.proofs.laws.reports_and_rollups_are_shown.Goals as goal

pub returns : goal.returns
returns c = others_shown
