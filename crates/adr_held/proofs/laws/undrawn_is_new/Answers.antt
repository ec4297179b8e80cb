use Rattle.adr_held.proofs.UseLemmas.{undrawn_new}
use Rattle.adr_held.proofs.laws.undrawn_is_new.Goals as goal

pub returns : goal.returns
returns c = undrawn_new
