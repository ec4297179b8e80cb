use Rattle.adr_objects.specs.declared.shown.Stamps.{Stamps}
use Rattle.adr_state.specs.declared.keys.ViewKey.{ViewKey}
use Rattle.adr_db.proofs.KeptMaps.{put_leaves}
use Rattle.adr_db.proofs.Maps.{stamp_map}
use Rattle.adr_db_state.proofs.StampStatements.{texts}
use Rattle.adr_db_state.proofs.stamp.put_stamps.Goals as goal

pub returns-clause-leaves : goal.returns-clause-leaves
returns-clause-leaves g c =
    let e : ViewKey × Stamps = (c.args.key.now, c.args.stamps) in
    put_leaves stamp_map g.S.Store c.args.tx.now.conn.now c.run.new.tx.conn.now _ _ c.args.key.now c.args.stamps _ (texts.puts e) (texts.fit e) (λ kept are. are)
    (rw (c.to_sql.ensures, c.view_kind.ensures, c.to_sql-2.ensures, c.view_id.ensures, c.in_ok-number.ensures.value, c.view_number.ensures, c.in_ok-number-2.ensures.value, c.nanos.ensures.value, c.in_ok-number-3.ensures.value, c.nanos-2.ensures.value) at c.run.ensures.runs)
