use Rattle.std.proofs.Common.{◌≡◌, Option, Some, refl, ap}
use Rattle.adr_db.specs.declared.shown.ShownColumns.{ShownColumns}
use Rattle.adr_db.specs.Admitted.{ReadsShownColumns}
use Rattle.adr_db.proofs.KeptMaps.{one_finds}
use Rattle.adr_db.proofs.Maps.{shown_map}
use Rattle.adr_db_shown.proofs.ShownStatements.{reads_one, columns_kept}
use Rattle.adr_db_shown.proofs.shown.read_shown_at.Goals as goal

pub returns-clause-finds : goal.returns-clause-finds
returns-clause-finds g c =
    one_finds shown_map g.S.Store c.args.tx.now.conn.now c.first_of.new.tx.conn.now _ ReadsShownColumns (λ (found there : Option ShownColumns). found ≡ there) c.args.key.now _ refl reads_one refl (λ a b reads. ap Some (columns_kept a b reads))
    (rw (c.to_sql.ensures, c.as_str.ensures.text, c.in_ok-n.ensures.value, c.get.ensures) at c.first_of.ensures.shows)

pub returns-clause-fails : goal.returns-clause-fails
returns-clause-fails g c = rw (c.to_sql.ensures, c.as_str.ensures.text, c.in_ok-n.ensures.value, c.get.ensures) at c.first_of.ensures.fails
