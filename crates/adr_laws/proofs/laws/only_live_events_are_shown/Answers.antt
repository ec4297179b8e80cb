use Rattle.adr_laws.proofs.EventLemmas.{only_live_shown}
use Rattle.adr_laws.proofs.laws.only_live_events_are_shown.Goals as goal

pub returns : goal.returns
returns c = only_live_shown
