use Rattle.adr_laws.proofs.GoneLemmas.{removed_gone, never_return}
use Rattle.adr_laws.proofs.laws.reports_never_return.Goals as goal

pub returns-clause-removed : goal.returns-clause-removed
returns-clause-removed c = removed_gone

pub returns-clause-gone : goal.returns-clause-gone
returns-clause-gone c = never_return
