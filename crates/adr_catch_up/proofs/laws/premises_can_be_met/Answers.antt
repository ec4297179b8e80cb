use Rattle.adr_catch_up.proofs.ExampleLemmas.{it_catches_up, scan_is_quiet}
use Rattle.adr_catch_up.proofs.laws.premises_can_be_met.Goals as goal

pub returns-clause-met : goal.returns-clause-met
returns-clause-met c = scan_is_quiet

pub returns-clause-caught_up : goal.returns-clause-caught_up
returns-clause-caught_up c = it_catches_up
