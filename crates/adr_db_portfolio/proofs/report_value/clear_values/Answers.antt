use Rattle.adr_db_portfolio.proofs.ReportStatements.{values_cleared}
use Rattle.adr_db_portfolio.proofs.report_value.clear_values.Goals as goal

pub returns-clause-changes : goal.returns-clause-changes
returns-clause-changes g c = values_cleared g.S.Store c.args.tx.now.conn.now c.run.new.tx.conn.now c.args.report _ (rw (c.in_ok-number.ensures.value, c.get.ensures) at c.run.ensures.runs)
