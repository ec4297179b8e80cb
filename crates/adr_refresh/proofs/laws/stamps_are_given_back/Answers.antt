use Rattle.adr_refresh.proofs.RefreshLemmas.{stamps_given_back}
use Rattle.adr_refresh.proofs.laws.stamps_are_given_back.Goals as goal

pub returns : goal.returns
returns c = stamps_given_back
