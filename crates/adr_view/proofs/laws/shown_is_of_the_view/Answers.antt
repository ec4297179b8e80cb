use Rattle.adr_view.proofs.ShownLemmas.{shown_is_of_view}
use Rattle.adr_view.proofs.laws.shown_is_of_the_view.Goals as goal

pub returns : goal.returns
returns c = shown_is_of_view
