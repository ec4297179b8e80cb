use Rattle.adr_request.proofs.OneReading.{one_request}
use Rattle.adr_request.proofs.laws.one_reading.Goals as goal

pub returns : goal.returns
returns c = one_request
