use Rattle.adr_view_laws.proofs.ListedLemmas.{reports_lack_none, reports_lack_none_after_runs, seen_by_its_own, no_filter}
use Rattle.adr_view_laws.proofs.laws.reports_lack_none.Goals as goal

pub returns-clause-state : goal.returns-clause-state
returns-clause-state c = reports_lack_none

pub returns-clause-run : goal.returns-clause-run
returns-clause-run c = reports_lack_none_after_runs

pub returns-clause-seen : goal.returns-clause-seen
returns-clause-seen c = seen_by_its_own

pub returns-clause-unfiltered : goal.returns-clause-unfiltered
returns-clause-unfiltered c = no_filter
