use Rattle.adr_exchange.proofs.OwnRequests.{clients_fit}
use Rattle.adr_exchange.proofs.laws.clients_requests_fit.Goals as goal

pub returns : goal.returns
returns c = clients_fit
