use Rattle.adr_outbox_laws.proofs.LeaseLemmas.{one_lease_each}
use Rattle.adr_outbox_laws.proofs.laws.one_lease_each.Goals as goal

pub returns : goal.returns
returns c = one_lease_each
