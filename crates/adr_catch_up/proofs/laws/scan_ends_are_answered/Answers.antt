use Rattle.adr_catch_up.proofs.CatchUpLemmas.{scans_end}
use Rattle.adr_catch_up.proofs.laws.scan_ends_are_answered.Goals as goal

pub returns : goal.returns
returns c = scans_end
