-- A table that is read whole is the map that is kept.
use Rattle.std.proofs.Common.{◌≡◌, List, [], Result, Ok, Err, IfOk, ap, subst, ◌∙◌}
use Rattle.adr_db.proofs.Common.{AllZip, Row, Has, end, Ghosts, Held, state, map_of, IsSelectText, whole_rows}
use Rattle.adr_sql.proofs.KeyedMaps.{read_all_runs}
use Rattle.adr_db.specs.Kept.{Kept, contents_of}
use Rattle.adr_db.specs.Tables.{schema}
use Rattle.adr_db.specs.Calls.{Finds, Shows}
use Rattle.adr_db.proofs.Calls.{shown_finds}
use Rattle.adr_db.proofs.KeptMaps.{KeptMap, AreTexts, again, read_back}

module _ {K V : Type 0} (m : KeptMap K V) {S E : Type 0} (g : Ghosts S) (old new : Held S) {sql : List _} (text : IsSelectText schema m.rows.table (whole_rows 0 m.rows.table) end sql) where
  -- each row reads as the entry that it stands for
  pub each_finds : (Reads : Row → K × V → Type 0) (r : Result (List (K × V)) E) → ((kept : Kept) → AreTexts kept → (d e : K × V) → Has (m.entries kept) e → Reads (m.rows.row_of e) d → d ≡ e) → Shows g old new sql [] (AllZip Reads) r
      → Finds g old new (λ kept es. es ≡ m.entries kept) r
  each_finds Reads r back =
      shown_finds g old new sql [] (AllZip Reads) (λ kept es. es ≡ m.entries kept) r text.alone (λ es rows kept shown was read.
      read_back Reads m.rows.row_of es (m.entries kept) (back kept (was.marks, was.subs)) (subst (λ rows. AllZip Reads rows es) (read_all_runs m.rows (contents_of kept) (m.entries kept) (m.stored kept) sql [] (state g old) (state g new) text rows shown was.rows) read))

  -- and they make the map again
  pub whole_finds : (Reads : Row → K × V → Type 0) (es : List (K × V)) (r : Result (List (K × V)) E) → ((kept : Kept) → AreTexts kept → (d e : K × V) → Has (m.entries kept) e → Reads (m.rows.row_of e) d → d ≡ e) → Shows g old new {E = E} sql [] (AllZip Reads) (Ok es)
      → IfOk r (λ table. table ≡ map_of m.rows.cmp es) → Finds g old new (λ kept table. table ≡ m.entries kept) r
  whole_finds Reads es r back shows = by r (each_finds Reads (Ok es) back shows)
    where
      by : (r : Result (List (K × V)) E) → Finds g old new {E = E} (λ kept es. es ≡ m.entries kept) (Ok es) → IfOk r (λ table. table ≡ map_of m.rows.cmp es) → Finds g old new (λ kept table. table ≡ m.entries kept) r
      by (Ok table) found is clean = λ kept was. let both = found clean kept was in (is ∙ ap (map_of m.rows.cmp) both.0 ∙ again m kept (state g old) was, both.1)
      by (Err e) found is clean = tt
