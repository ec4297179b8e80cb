use Rattle.adr_db_portfolio.proofs.ReportStatements.{numbers_on_find}
use Rattle.adr_db_portfolio.proofs.report.read_reports_on.Goals as goal

pub returns-clause-finds : goal.returns-clause-finds
returns-clause-finds g c = numbers_on_find g.S.Store c.args.tx.now.conn.now c.all_of.new.tx.conn.now c.args.resource _ (rw (c.in_ok-number.ensures.value, c.get.ensures) at c.all_of.ensures.shows)

pub returns-clause-fails : goal.returns-clause-fails
returns-clause-fails g c = rw (c.in_ok-number.ensures.value, c.get.ensures) at c.all_of.ensures.fails
