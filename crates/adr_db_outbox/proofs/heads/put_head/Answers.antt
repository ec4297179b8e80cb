use Rattle.adr_db_outbox.proofs.HeadStatements.{head_put}
use Rattle.adr_db_outbox.proofs.heads.put_head.Goals as goal

pub returns-clause-changes : goal.returns-clause-changes
returns-clause-changes g c = head_put g.S.Store c.args.tx.now.conn.now c.run.new.tx.conn.now c.args.dest c.args.entry _ (rw (c.in_ok-number.ensures.value, c.get.ensures, c.in_ok-number-2.ensures.value, c.get-2.ensures) at c.run.ensures.runs)
