use Rattle.adr_state.proofs.LawLemmas.{marks_ordered}
use Rattle.adr_state.proofs.laws.marks_are_ordered.Goals as goal

pub returns : goal.returns
returns c = marks_ordered
