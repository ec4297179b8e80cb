use Rattle.adr_split.proofs.UniqueLemmas.{fair_split_is_one}
use Rattle.adr_split.proofs.laws.one_list_fits.Goals as goal

pub returns : goal.returns
returns c = fair_split_is_one
