use Rattle.adr_exchange.proofs.KeptAddresses.{kept_is_called}
use Rattle.adr_exchange.proofs.laws.kept_addresses_may_be_called.Goals as goal

pub returns : goal.returns
returns c = kept_is_called
