use Rattle.std.proofs.Common.{rules}
use Rattle.adr_sql.proofs.Transactions.{rows_stay}
use Rattle.adr_sql.proofs.statement.rows_of.Goals as goal

pub returns-clause-lent : goal.returns-clause-lent
returns-clause-lent g c = record { same = search rules; stays = rows_stay g.S.Store _ _ c.args.tx.now.conn.now c.query_all.new.self.conn.now (λ rows. rows.items) c.query_all.result c.query_all.ensures.ok c.query_all.ensures.err c.query_all.ensures.survives }
