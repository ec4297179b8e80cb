use Rattle.adr_laws.proofs.AnswerLemmas.{reports_answered, reports_answered_after_runs}
use Rattle.adr_laws.proofs.laws.reports_are_answered.Goals as goal

pub returns-clause-state : goal.returns-clause-state
returns-clause-state c = reports_answered

pub returns-clause-run : goal.returns-clause-run
returns-clause-run c = reports_answered_after_runs
