use Rattle.adr_outbox_laws.proofs.LeaseLemmas.{settled_by_its_lease}
use Rattle.adr_outbox_laws.proofs.laws.settled_by_its_lease.Goals as goal

pub returns : goal.returns
returns c = settled_by_its_lease
