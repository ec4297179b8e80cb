use Rattle.adr_refresh.proofs.RefreshLemmas.{refreshed_as_computed}
use Rattle.adr_refresh.proofs.laws.refreshed_is_as_computed.Goals as goal

pub returns : goal.returns
returns c = refreshed_as_computed
