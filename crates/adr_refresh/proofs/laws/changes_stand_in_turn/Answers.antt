use Rattle.adr_refresh.proofs.TurnLemmas.{changes_in_their_turn}
use Rattle.adr_refresh.proofs.laws.changes_stand_in_turn.Goals as goal

pub returns : goal.returns
returns c = changes_in_their_turn
