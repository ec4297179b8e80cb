use Rattle.std.proofs.Common.{◌≡◌, Option, Some, refl, ap}
use Rattle.adr_db.proofs.Common.{Stamps}
use Rattle.adr_db.specs.Admitted.{ReadsStamps}
use Rattle.adr_db.proofs.Rows.{stamps_kept}
use Rattle.adr_db.proofs.Calls.{shows}
use Rattle.adr_db.proofs.KeptMaps.{one_finds}
use Rattle.adr_db.proofs.Maps.{stamp_map}
use Rattle.adr_db_state.proofs.StampStatements.{texts}
use Rattle.adr_db_state.proofs.stamp.read_stamps_of.Goals as goal

pub returns-clause-finds : goal.returns-clause-finds
returns-clause-finds g c =
    one_finds stamp_map g.S.Store c.args.tx.now.conn.now c.rows_of.new.tx.conn.now _ ReadsStamps (λ (found there : Option Stamps). found ≡ there) c.args.key.now _ refl texts.reads_one refl (λ a b same. ap Some (stamps_kept a b same))
    (shows g.S.Store c.args.tx.now.conn.now c.rows_of.new.tx.conn.now _ _ _ _ _ (rw (c.to_sql.ensures, c.view_kind.ensures, c.to_sql-2.ensures, c.view_id.ensures, c.in_ok-n.ensures.value, c.view_number.ensures) at c.in_ok-rows.ensures.answers) (rw c.deref.ensures.value at c.first_in.ensures.read))
