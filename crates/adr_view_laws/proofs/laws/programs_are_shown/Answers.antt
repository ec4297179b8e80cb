use Rattle.adr_view_laws.proofs.ProgramLemmas.{programs_shown, programs_shown_after_runs}
use Rattle.adr_view_laws.proofs.laws.programs_are_shown.Goals as goal

pub returns-clause-base : goal.returns-clause-base
returns-clause-base c = programs_shown

pub returns-clause-run : goal.returns-clause-run
returns-clause-run c = programs_shown_after_runs
