use Rattle.adr_laws.proofs.CountedLemmas.{reports_last_written, latest_last_reported, rollups_of_the_last}
use Rattle.adr_laws.proofs.WrittenLemmas.{written_as_sent}
use Rattle.adr_laws.proofs.laws.the_last_reported_counts.Goals as goal

pub returns-clause-sent : goal.returns-clause-sent
returns-clause-sent c = written_as_sent

pub returns-clause-reports : goal.returns-clause-reports
returns-clause-reports c = reports_last_written

pub returns-clause-values : goal.returns-clause-values
returns-clause-values c = latest_last_reported

pub returns-clause-rollups : goal.returns-clause-rollups
returns-clause-rollups c = rollups_of_the_last
