use Rattle.adr_outbox_laws.proofs.NextLemmas.{next_is_first, next_is_first_after_runs}
use Rattle.adr_outbox_laws.proofs.laws.next_is_first.Goals as goal

pub returns-clause-entries : goal.returns-clause-entries
returns-clause-entries c = next_is_first

pub returns-clause-run : goal.returns-clause-run
returns-clause-run c = next_is_first_after_runs
