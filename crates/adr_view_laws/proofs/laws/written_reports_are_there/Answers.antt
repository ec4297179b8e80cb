use Rattle.adr_view_laws.proofs.ThereLemmas.{written_there}
use Rattle.adr_view_laws.proofs.laws.written_reports_are_there.Goals as goal

pub returns : goal.returns
returns c = written_there
