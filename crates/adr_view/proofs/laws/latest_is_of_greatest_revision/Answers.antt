use Rattle.adr_view.proofs.LatestLemmas.{latest_is_greatest}
use Rattle.adr_view.proofs.laws.latest_is_of_greatest_revision.Goals as goal

pub returns : goal.returns
returns c = latest_is_greatest
