use Rattle.std.proofs.Common.{refl}
use Rattle.adr_db.proofs.Tables.{rollup_childless}
use Rattle.adr_db.proofs.KeptMaps.{remove_leaves}
use Rattle.adr_db.proofs.Maps.{rollup_map}
use Rattle.adr_db_shown.proofs.RollupStatements.{removes}
use Rattle.adr_db_shown.proofs.rollup.remove_rollup.Goals as goal

pub returns-clause-leaves : goal.returns-clause-leaves
returns-clause-leaves g c =
    remove_leaves rollup_map g.S.Store c.args.tx.now.conn.now c.run.new.tx.conn.now _ c.args.event.now _ refl rollup_childless removes (λ kept are. are)
    (rw (c.to_sql.ensures, c.as_str.ensures.text) at c.run.ensures.runs)
