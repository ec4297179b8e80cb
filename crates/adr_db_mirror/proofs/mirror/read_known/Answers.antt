use Rattle.std.proofs.Common.{◌≡◌, Option, Some, refl, ap, ◌∙◌}
use Rattle.std.specs.Prelude.{IfSome}
use Rattle.adr_db.proofs.Common.{Mark}
use Rattle.adr_db.specs.Admitted.{ReadsMark}
use Rattle.adr_db.specs.Kept.{IsMark}
use Rattle.adr_db.proofs.Rows.{columns_are}
use Rattle.adr_db.proofs.KeptMaps.{one_finds}
use Rattle.adr_db.proofs.Maps.{mirror_map}
use Rattle.adr_db.proofs.Marks.{known_is_mark, mark_read}
use Rattle.adr_db_mirror.proofs.MirrorStatements.{reads_one}
use Rattle.adr_db.proofs.Results.{ok_then}
use Rattle.adr_db_mirror.proofs.mirror.read_known.Goals as goal

pub returns-clause-finds : goal.returns-clause-finds
returns-clause-finds g c clean =
    let key = c.args.key.now in
    ok_then c.first_of.result (λ known finds kept was. let found = finds kept was in (found.0 (known_is_mark kept.mirror was.marks key), found.1))
    (one_finds mirror_map g.S.Store c.args.tx.now.conn.now c.first_of.new.tx.conn.now _ ReadsMark (λ (known there : Option Mark). IfSome there IsMark → known ≡ there) key _ refl reads_one (λ is. refl) (λ known mark reads is. ap Some (mark_read reads.0 known reads.3 mark is (reads.2 ∙ columns_are key mark)))
    (rw (c.to_sql.ensures, c.kind_number.ensures, c.to_sql-2.ensures, c.as_str.ensures.text) at c.first_of.ensures.shows) clean)

pub returns-clause-fails : goal.returns-clause-fails
returns-clause-fails g c = rw (c.to_sql.ensures, c.kind_number.ensures, c.to_sql-2.ensures, c.as_str.ensures.text) at c.first_of.ensures.fails
