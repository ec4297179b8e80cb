use Rattle.adr_view.proofs.LawLemmas.{contents_equal}
use Rattle.adr_view.proofs.laws.same_contents_are_equal.Goals as goal

pub returns : goal.returns
returns c = contents_equal
