use Rattle.std.proofs.Common.{refl}
use Rattle.adr_db.proofs.Tables.{stamp_childless}
use Rattle.adr_db.proofs.KeptMaps.{remove_leaves}
use Rattle.adr_db.proofs.Maps.{stamp_map}
use Rattle.adr_db_state.proofs.StampStatements.{texts}
use Rattle.adr_db_state.proofs.stamp.remove_stamps.Goals as goal

pub returns-clause-leaves : goal.returns-clause-leaves
returns-clause-leaves g c =
    remove_leaves stamp_map g.S.Store c.args.tx.now.conn.now c.run.new.tx.conn.now _ c.args.key.now _ refl stamp_childless texts.removes (λ kept are. are)
    (rw (c.to_sql.ensures, c.view_kind.ensures, c.to_sql-2.ensures, c.view_id.ensures, c.in_ok-n.ensures.value, c.view_number.ensures) at c.run.ensures.runs)
