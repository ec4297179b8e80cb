use Rattle.adr_outbox_laws.proofs.ToldLemmas.{deliveries_tell_nothing, each_change_is_told, each_change_is_told_after_runs}
use Rattle.adr_outbox_laws.proofs.laws.each_change_is_told.Goals as goal

pub returns-clause-changes : goal.returns-clause-changes
returns-clause-changes c = each_change_is_told

pub returns-clause-run : goal.returns-clause-run
returns-clause-run c = each_change_is_told_after_runs

pub returns-clause-deliveries : goal.returns-clause-deliveries
returns-clause-deliveries c = deliveries_tell_nothing
