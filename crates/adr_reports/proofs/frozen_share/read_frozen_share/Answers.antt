use Rattle.std.proofs.Common.{◌≡◌, ℕ, Option, Some, refl, ap}
use Rattle.adr_db.specs.Admitted.{ReadsShareWeight}
use Rattle.adr_db.proofs.Rows.{number_kept}
use Rattle.adr_db.proofs.Calls.{shows}
use Rattle.adr_db.proofs.KeptMaps.{one_finds}
use Rattle.adr_db.proofs.Maps.{frozen_share_map}
use Rattle.adr_reports.proofs.FrozenStatements.{reads_one}
use Rattle.adr_reports.proofs.frozen_share.read_frozen_share.Goals as goal

pub returns-clause-finds : goal.returns-clause-finds
returns-clause-finds g c =
    one_finds frozen_share_map g.S.Store c.args.tx.now.conn.now c.rows_of.new.tx.conn.now _ ReadsShareWeight (λ (found there : Option ℕ). found ≡ there) c.args.key.now _ refl reads_one refl (λ a b same. ap Some (number_kept a b same))
    (shows g.S.Store c.args.tx.now.conn.now c.rows_of.new.tx.conn.now _ _ _ _ _ (rw (c.to_sql.ensures, c.as_str.ensures.text, c.in_ok-resource.ensures.value, c.get.ensures) at c.in_ok-rows.ensures.answers) (rw c.deref.ensures.value at c.first_in.ensures.read))
