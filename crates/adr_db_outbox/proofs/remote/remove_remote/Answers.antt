use Rattle.std.proofs.Common.{refl}
use Rattle.adr_db.proofs.Tables.{remote_childless}
use Rattle.adr_db.proofs.KeptMaps.{remove_leaves}
use Rattle.adr_db.proofs.Maps.{remote_map}
use Rattle.adr_db_outbox.proofs.RemoteStatements.{texts}
use Rattle.adr_db_outbox.proofs.remote.remove_remote.Goals as goal

pub returns-clause-leaves : goal.returns-clause-leaves
returns-clause-leaves g c = remove_leaves remote_map g.S.Store c.args.tx.now.conn.now c.run.new.tx.conn.now _ c.args.event.now _ refl remote_childless texts.removes (λ kept are. are) (rw (c.to_sql.ensures, c.as_str.ensures.text) at c.run.ensures.runs)
