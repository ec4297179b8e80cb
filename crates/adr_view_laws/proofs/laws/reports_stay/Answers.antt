use Rattle.adr_view_laws.proofs.StayLemmas.{reports_stay}
use Rattle.adr_view_laws.proofs.laws.reports_stay.Goals as goal

pub returns : goal.returns
returns c = reports_stay
