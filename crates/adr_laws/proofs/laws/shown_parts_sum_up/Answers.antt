use Rattle.adr_laws.proofs.EventLemmas.{parts_sum_up, parts_sum_up_after_runs}
use Rattle.adr_laws.proofs.laws.shown_parts_sum_up.Goals as goal

pub returns-clause-base : goal.returns-clause-base
returns-clause-base c = parts_sum_up

pub returns-clause-run : goal.returns-clause-run
returns-clause-run c = parts_sum_up_after_runs
