use Rattle.adr_db_outbox.proofs.HeadStatements.{destination_finds}
use Rattle.adr_db_outbox.proofs.outbox.read_destination.Goals as goal

pub returns-clause-finds : goal.returns-clause-finds
returns-clause-finds g c = destination_finds g.S.Store c.args.tx.now.conn.now c.first_number.new.tx.conn.now c.args.id _ (rw (c.in_ok-number.ensures.value, c.get.ensures) at c.first_number.ensures.shows)

pub returns-clause-fails : goal.returns-clause-fails
returns-clause-fails g c = rw (c.in_ok-number.ensures.value, c.get.ensures) at c.first_number.ensures.fails
