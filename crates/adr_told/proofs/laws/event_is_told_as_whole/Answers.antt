use Rattle.adr_told.proofs.Shown.{event_as_whole}
use Rattle.adr_told.proofs.laws.event_is_told_as_whole.Goals as goal

pub returns : goal.returns
returns c = event_as_whole
