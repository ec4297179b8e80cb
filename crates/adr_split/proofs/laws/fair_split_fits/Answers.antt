use Rattle.adr_split.proofs.FairLemmas.{fair_split_is_fair}
use Rattle.adr_split.proofs.laws.fair_split_fits.Goals as goal

pub returns : goal.returns
returns c = fair_split_is_fair
