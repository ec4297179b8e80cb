use Rattle.adr_db_mirror.proofs.KindRows.{kind_finds}
use Rattle.adr_db_mirror.proofs.mirror.read_kind.Goals as goal

pub returns-clause-finds : goal.returns-clause-finds
returns-clause-finds g c = kind_finds g.S.Store c.args.tx.now.conn.now c.all_of.new.tx.conn.now c.args.kind _ (rw (c.to_sql.ensures, c.kind_number.ensures) at c.all_of.ensures.shows)

pub returns-clause-fails : goal.returns-clause-fails
returns-clause-fails g c = rw (c.to_sql.ensures, c.kind_number.ensures) at c.all_of.ensures.fails
