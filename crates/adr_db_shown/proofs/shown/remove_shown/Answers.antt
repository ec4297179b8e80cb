use Rattle.std.proofs.Common.{refl}
use Rattle.adr_db.proofs.Tables.{shown_childless}
use Rattle.adr_db.proofs.KeptMaps.{remove_leaves}
use Rattle.adr_db.proofs.Maps.{shown_map}
use Rattle.adr_db_shown.proofs.ShownStatements.{removes}
use Rattle.adr_db_shown.proofs.shown.remove_shown.Goals as goal

pub returns-clause-leaves : goal.returns-clause-leaves
returns-clause-leaves g c =
    remove_leaves shown_map g.S.Store c.args.tx.now.conn.now c.run.new.tx.conn.now _ c.args.key.now _ refl shown_childless removes (λ kept are. are)
    (rw (c.to_sql.ensures, c.as_str.ensures.text, c.in_ok-n.ensures.value, c.get.ensures) at c.run.ensures.runs)
