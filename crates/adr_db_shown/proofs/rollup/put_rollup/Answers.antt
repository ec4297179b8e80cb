use Rattle.std.proofs.Common.{List, ℕ}
use Rattle.adr_db.specs.declared.shown.RollupColumns.{RollupColumns}
use Rattle.adr_db.proofs.KeptMaps.{put_leaves}
use Rattle.adr_db.proofs.Maps.{rollup_map}
use Rattle.adr_db_shown.proofs.RollupStatements.{puts, fit}
use Rattle.adr_db_shown.proofs.rollup.put_rollup.Goals as goal

pub returns-clause-leaves : goal.returns-clause-leaves
returns-clause-leaves g c =
    let e : List ℕ × RollupColumns = (c.args.event.now, c.args.columns.now) in
    put_leaves rollup_map g.S.Store c.args.tx.now.conn.now c.run.new.tx.conn.now _ _ c.args.event.now c.args.columns.now _ (puts e) (fit e) (λ kept are. are)
    (rw (c.to_sql.ensures, c.as_str.ensures.text, c.to_sql-2.ensures, c.as_str-2.ensures.text, c.to_sql-3.ensures, c.as_str-3.ensures) at c.run.ensures.runs)
