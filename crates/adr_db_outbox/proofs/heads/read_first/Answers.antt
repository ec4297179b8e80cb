use Rattle.adr_db_outbox.proofs.HeadStatements.{first_finds}
use Rattle.adr_db_outbox.proofs.heads.read_first.Goals as goal

pub returns-clause-finds : goal.returns-clause-finds
returns-clause-finds g c = first_finds g.S.Store c.args.tx.now.conn.now c.first_number.new.tx.conn.now c.args.dest _ (rw (c.in_ok-number.ensures.value, c.get.ensures) at c.first_number.ensures.shows)

pub returns-clause-fails : goal.returns-clause-fails
returns-clause-fails g c = rw (c.in_ok-number.ensures.value, c.get.ensures) at c.first_number.ensures.fails
