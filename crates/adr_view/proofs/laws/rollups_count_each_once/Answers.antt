use Rattle.adr_view.proofs.RollupLemmas.{counts_each_once}
use Rattle.adr_view.proofs.laws.rollups_count_each_once.Goals as goal

pub returns : goal.returns
returns c = counts_each_once
