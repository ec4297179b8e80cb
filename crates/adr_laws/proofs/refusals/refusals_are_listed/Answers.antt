use Rattle.adr_queries.proofs.Listed.{reply_listed, listed_for_of_machine}
use Rattle.adr_machine.proofs.Listed.{edit_listed, step_listed, listed_of_machine}
use Rattle.adr_laws.proofs.refusals.refusals_are_listed.Goals as goal

pub returns : goal.returns
returns c = record { of_edits = edit_listed; of_steps = step_listed; of_replies = reply_listed; of_machine = listed_of_machine; of_machine_for = listed_for_of_machine }
