use Rattle.std.proofs.Common.{◌≡◌, Option, Some, refl, ap}
use Rattle.adr_db.specs.declared.shown.RollupColumns.{RollupColumns}
use Rattle.adr_db.specs.Admitted.{ReadsRollupColumns}
use Rattle.adr_db.proofs.KeptMaps.{one_finds}
use Rattle.adr_db.proofs.Maps.{rollup_map}
use Rattle.adr_db_shown.proofs.RollupStatements.{reads_one, columns_kept}
use Rattle.adr_db_shown.proofs.rollup.read_rollup.Goals as goal

pub returns-clause-finds : goal.returns-clause-finds
returns-clause-finds g c =
    one_finds rollup_map g.S.Store c.args.tx.now.conn.now c.first_of.new.tx.conn.now _ ReadsRollupColumns (λ (found there : Option RollupColumns). found ≡ there) c.args.event.now _ refl reads_one refl (λ a b reads. ap Some (columns_kept a b reads))
    (rw (c.to_sql.ensures, c.as_str.ensures.text) at c.first_of.ensures.shows)

pub returns-clause-fails : goal.returns-clause-fails
returns-clause-fails g c = rw (c.to_sql.ensures, c.as_str.ensures.text) at c.first_of.ensures.fails
