use Rattle.adr_db.proofs.Tables.{polled_childless}
use Rattle.adr_db.proofs.KeptMaps.{clear_leaves}
use Rattle.adr_db.proofs.Maps.{polled_map}
use Rattle.adr_db_mirror.proofs.PolledStatements.{clears}
use Rattle.adr_db_mirror.proofs.polled.clear_polled.Goals as goal

pub returns-clause-leaves : goal.returns-clause-leaves
returns-clause-leaves g c = clear_leaves polled_map g.S.Store c.args.tx.now.conn.now c.run.new.tx.conn.now _ _ polled_childless clears (λ kept are. are) c.run.ensures.runs
