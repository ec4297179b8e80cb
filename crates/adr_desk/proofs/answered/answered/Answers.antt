use Rattle.std.proofs.Common.{[], subst}
use Rattle.adr_machine.specs.declared.outcome.Outcome.{Outcome}
use Rattle.adr_desk.specs.Decisions.{IsAnswered}
use Rattle.adr_desk.proofs.AnswerLemmas.{told_so}
use Rattle.adr_desk.proofs.answered.answered.Goals as goal

pub returns-in-ReportKept-clause-listed : goal.returns-in-ReportKept-clause-listed
returns-in-ReportKept-clause-listed c command h = rw c.told.ensures (told_so command (subst (λ (said : Outcome). IsAnswered command said) c.in-ReportKept.is h [] (0, [])) c.report_of.result)

pub returns-in-ReportGone-clause-listed : goal.returns-in-ReportGone-clause-listed
returns-in-ReportGone-clause-listed c command h = rw c.told-in-ReportGone.ensures (told_so command (subst (λ (said : Outcome). IsAnswered command said) c.in-ReportGone.is h [] (0, [])) c.report_of-in-ReportGone.result)
