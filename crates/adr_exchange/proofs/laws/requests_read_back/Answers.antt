use Rattle.adr_exchange.proofs.RequestBack.{reads_back}
use Rattle.adr_exchange.proofs.laws.requests_read_back.Goals as goal

pub returns : goal.returns
returns c = reads_back
