use Rattle.std.proofs.Common.{◌≡◌, Option, Some, refl, ap, ◌∙◌}
use Rattle.adr_db.proofs.Common.{option_map, Mark, cells}
use Rattle.adr_db.specs.declared.known.MarkColumns.{MarkColumns}
use Rattle.adr_db.specs.Rows.{mark_columns, columns_row}
use Rattle.adr_db.proofs.Rows.{columns_are}
use Rattle.adr_db.proofs.Calls.{shows}
use Rattle.adr_db.proofs.KeptMaps.{one_finds}
use Rattle.adr_db.proofs.Maps.{mirror_map}
use Rattle.adr_db_mirror.proofs.MirrorStatements.{reads_one}
use Rattle.adr_db_mirror.proofs.mirror.read_mark.Goals as goal

pub returns-clause-finds : goal.returns-clause-finds
returns-clause-finds g c =
    one_finds mirror_map g.S.Store c.args.tx.now.conn.now c.rows_of.new.tx.conn.now _ (λ row columns. columns_row columns ≡ cells 2 3 row) (λ (found : Option MarkColumns) (there : Option Mark). option_map columns_row found ≡ option_map mark_columns there) c.args.key.now _ refl reads_one refl (λ columns mark same. ap Some (same ∙ columns_are c.args.key.now mark))
    (shows g.S.Store c.args.tx.now.conn.now c.rows_of.new.tx.conn.now _ _ _ _ _ (rw (c.to_sql.ensures, c.kind_number.ensures, c.to_sql-2.ensures, c.as_str.ensures.text) at c.in_ok-rows.ensures.answers) (rw c.deref.ensures.value at c.first_in.ensures.read))
