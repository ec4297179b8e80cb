use Rattle.adr_laws.proofs.ApartLemmas.{entries_have_numbers}
use Rattle.adr_laws.proofs.OutboxLemmas.{entries_numbered_once}
use Rattle.adr_laws.proofs.laws.entries_are_numbered_once.Goals as goal

pub returns-clause-own : goal.returns-clause-own
returns-clause-own c = entries_have_numbers

pub returns-clause-once : goal.returns-clause-once
returns-clause-once c = entries_numbered_once
