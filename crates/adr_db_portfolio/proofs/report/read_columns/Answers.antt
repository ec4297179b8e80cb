use Rattle.adr_db_portfolio.proofs.ReportStatements.{row_finds}
use Rattle.adr_db_portfolio.proofs.report.read_columns.Goals as goal

pub returns-clause-finds : goal.returns-clause-finds
returns-clause-finds g c = row_finds g.S.Store c.args.tx.now.conn.now c.first_of.new.tx.conn.now c.args.id _ (rw (c.in_ok-number.ensures.value, c.get.ensures) at c.first_of.ensures.shows)

pub returns-clause-fails : goal.returns-clause-fails
returns-clause-fails g c = rw (c.in_ok-number.ensures.value, c.get.ensures) at c.first_of.ensures.fails
