use Rattle.adr_view.proofs.LawLemmas.{parts_sum}
use Rattle.adr_view.proofs.laws.parts_sum_up.Goals as goal

pub returns : goal.returns
returns c = parts_sum
