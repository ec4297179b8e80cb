use Rattle.adr_catch_up.proofs.CatchUpLemmas.{catches_up}
use Rattle.adr_catch_up.proofs.laws.quiet_scans_catch_up.Goals as goal

pub returns : goal.returns
returns c = catches_up
