use Rattle.std.proofs.Common.{[], ◌∷◌, ◌++◌, ap, subst}
use Rattle.std.specs.String.{string_bytes}
use Rattle.adr_db.proofs.Common.{Row, AreValues, IsUpsertText, mirror_cmp}
use Rattle.adr_db_mirror.specs.declared.mirror.TheConstants.{PUT}
use Rattle.adr_db.specs.Tables.{schema}
use Rattle.adr_db.specs.Rows.{kind_number, key_row, program_cell, program_of}
use Rattle.adr_db.proofs.Tables.{mirror}
use Rattle.adr_db.specs.Kept.{IsMark}
use Rattle.adr_db.proofs.Entries.{entries_put}
use Rattle.adr_db.proofs.KeptMaps.{put_leaves}
use Rattle.adr_db.proofs.Maps.{mirror_map}
use Rattle.adr_db_mirror.proofs.MirrorStatements.{row, puts, values}
use Rattle.adr_db_mirror.proofs.mirror.put_columns.Goals as goal

pub returns-clause-leaves : goal.returns-clause-leaves
returns-clause-leaves g c =
    let key = c.args.key.now in
    let mark = c.args.mark.now in
    let columns = c.args.columns.now in
    let given = row (kind_number key.kind) key.id columns.state columns.moment (string_bytes columns.body) (program_of mark) in
    let is = ap (λ (cells : Row). key_row key ++ (cells ++ program_cell mark ∷ [])) c.requires.same in
    put_leaves mirror_map g.S.Store c.args.tx.now.conn.now c.run.new.tx.conn.now _ given key mark _ (subst (IsUpsertText schema mirror_map.rows.at mirror PUT.now given) is (puts _ _ _ _ _ _)) (subst (AreValues mirror) is (values _ _ _ _ _ _)) (λ kept are. (entries_put mirror_cmp IsMark kept.mirror key mark are.0 c.requires.valid, are.1))
    (rw (c.to_sql.ensures, c.kind_number.ensures, c.to_sql-2.ensures, c.as_str.ensures.text, c.to_sql-3.ensures, c.in_ok-number.ensures.value, c.to_sql-4.ensures, c.program_cell.ensures) at c.run.ensures.runs)
