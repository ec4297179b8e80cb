use Rattle.adr_told.proofs.Turns.{told_in_turn}
use Rattle.adr_told.proofs.laws.whole_is_told_in_turn.Goals as goal

pub returns : goal.returns
returns c = told_in_turn
