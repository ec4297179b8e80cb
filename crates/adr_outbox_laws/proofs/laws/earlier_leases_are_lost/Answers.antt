use Rattle.adr_outbox_laws.proofs.GivenLemmas.{earlier_lost}
use Rattle.adr_outbox_laws.proofs.laws.earlier_leases_are_lost.Goals as goal

pub returns : goal.returns
returns c = earlier_lost
