use Rattle.adr_refresh.proofs.ViewLemmas.{view_of_sources}
use Rattle.adr_refresh.proofs.laws.view_is_of_sources.Goals as goal

pub returns : goal.returns
returns c = view_of_sources
