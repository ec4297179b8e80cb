use Rattle.adr_db_outbox.proofs.OutboxStatements.{row_removed}
use Rattle.adr_db_outbox.proofs.outbox.remove_row.Goals as goal

pub returns-clause-changes : goal.returns-clause-changes
returns-clause-changes g c = row_removed g.S.Store c.args.tx.now.conn.now c.run.new.tx.conn.now c.args.id _ (rw (c.in_ok-number.ensures.value, c.get.ensures) at c.run.ensures.runs)
