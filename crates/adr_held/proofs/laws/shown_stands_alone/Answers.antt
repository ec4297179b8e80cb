use Rattle.adr_held.proofs.HeldLemmas.{stands_alone}
use Rattle.adr_held.proofs.laws.shown_stands_alone.Goals as goal

pub returns : goal.returns
returns c = stands_alone
