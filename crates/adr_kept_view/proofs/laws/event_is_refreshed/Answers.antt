use Rattle.adr_kept_view.proofs.EventLemmas.{event_refreshed}
use Rattle.adr_kept_view.proofs.laws.event_is_refreshed.Goals as goal

pub returns : goal.returns
returns c owner rows beside before base now id keeps owns stands reads = event_refreshed owner rows beside base now id keeps owns stands reads before
