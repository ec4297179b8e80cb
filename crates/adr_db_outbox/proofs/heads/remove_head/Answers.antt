use Rattle.adr_db_outbox.proofs.HeadStatements.{head_removed}
use Rattle.adr_db_outbox.proofs.heads.remove_head.Goals as goal

pub returns-clause-changes : goal.returns-clause-changes
returns-clause-changes g c = head_removed g.S.Store c.args.tx.now.conn.now c.run.new.tx.conn.now c.args.dest _ (rw (c.in_ok-number.ensures.value, c.get.ensures) at c.run.ensures.runs)
