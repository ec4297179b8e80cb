use Rattle.adr_refresh.proofs.TouchedLemmas.{touched_enough}
use Rattle.adr_refresh.proofs.laws.touched_is_enough.Goals as goal

pub returns : goal.returns
returns c = touched_enough
