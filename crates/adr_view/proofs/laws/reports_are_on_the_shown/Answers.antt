use Rattle.adr_view.proofs.ReportedLemmas.{reports_on_shown}
use Rattle.adr_view.proofs.laws.reports_are_on_the_shown.Goals as goal

pub returns : goal.returns
returns c = reports_on_shown
