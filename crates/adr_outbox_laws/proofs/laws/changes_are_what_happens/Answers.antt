use Rattle.adr_outbox_laws.proofs.ChangeLemmas.{changes_are_what_happens}
use Rattle.adr_outbox_laws.proofs.laws.changes_are_what_happens.Goals as goal

pub returns : goal.returns
returns c = changes_are_what_happens
