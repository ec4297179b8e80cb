use Rattle.std.proofs.Common.{List, ℕ}
use Rattle.adr_db.proofs.KeptMaps.{put_leaves}
use Rattle.adr_db.proofs.Maps.{remote_map}
use Rattle.adr_db_outbox.proofs.RemoteStatements.{texts}
use Rattle.adr_db_outbox.proofs.remote.put_remote.Goals as goal

pub returns-clause-leaves : goal.returns-clause-leaves
returns-clause-leaves g c =
    let e : List ℕ × List ℕ = (c.args.event.now, c.args.id.now) in
    put_leaves remote_map g.S.Store c.args.tx.now.conn.now c.run.new.tx.conn.now _ _ c.args.event.now c.args.id.now _ (texts.puts e) (texts.fit e) (λ kept are. are) (rw (c.to_sql.ensures, c.as_str.ensures.text, c.to_sql-2.ensures, c.as_str-2.ensures.text) at c.run.ensures.runs)
