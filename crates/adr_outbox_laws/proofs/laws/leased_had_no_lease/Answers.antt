use Rattle.adr_outbox_laws.proofs.LeaseLemmas.{lease_is_refused, leased_had_no_lease}
use Rattle.adr_outbox_laws.proofs.laws.leased_had_no_lease.Goals as goal

pub returns-clause-given : goal.returns-clause-given
returns-clause-given c = leased_had_no_lease

pub returns-clause-refused : goal.returns-clause-refused
returns-clause-refused c = lease_is_refused
