use Rattle.adr_db.specs.declared.shown.ShownColumns.{ShownColumns}
use Rattle.adr_db.specs.declared.shown.ShownKey.{ShownKey}
use Rattle.adr_db.proofs.KeptMaps.{put_leaves}
use Rattle.adr_db.proofs.Maps.{shown_map}
use Rattle.adr_db_shown.proofs.ShownStatements.{puts, fit}
use Rattle.adr_db_shown.proofs.shown.put_shown.Goals as goal

pub returns-clause-leaves : goal.returns-clause-leaves
returns-clause-leaves g c =
    let e : ShownKey × ShownColumns = (c.args.key.now, c.args.columns.now) in
    put_leaves shown_map g.S.Store c.args.tx.now.conn.now c.run.new.tx.conn.now _ _ c.args.key.now c.args.columns.now _ (puts e) (fit e) (λ kept are. are)
    (rw (c.to_sql.ensures, c.as_str.ensures.text, c.in_ok-number.ensures.value, c.get.ensures, c.to_sql-2.ensures, c.as_str-2.ensures.text, c.in_ok-number-2.ensures.value, c.get-2.ensures, c.to_sql-3.ensures, c.as_str-3.ensures.text, c.to_sql-4.ensures, c.as_str-4.ensures.text, c.to_sql-5.ensures, c.as_str-5.ensures) at c.run.ensures.runs)
