-- The numbers of those that have a name.
use Rattle.std.proofs.Common.{◌≡◌, ℕ, Bool, List, [], ◌∷◌, map, filter, Result, sym, ap, subst, ◌∙◌}
use Rattle.std.specs.Prelude.{bytes_eq}
use Rattle.adr_db.proofs.Common.{AllZip, Null, Text, Row, column, filter-map, map-map, end, Ghosts, Held, state, cells, IsSelectText, first_columns, first_runs, passes, is_text, text_passes}
use Rattle.adr_db.specs.Tables.{schema}
use Rattle.adr_db.specs.Rows.{number, number_row}
use Rattle.adr_db.specs.Kept.{contents_of, numbers_named}
use Rattle.adr_db.specs.Calls.{Finds, Shows}
use Rattle.adr_db.proofs.Rows.{number_kept}
use Rattle.adr_db.proofs.Calls.{shown_finds}
use Rattle.adr_db.proofs.KeptMaps.{KeptMap, read_back}

-- a map by number, with names in a column
module _ {V : Type 0} (m : KeptMap ℕ V) (name_of : V → List ℕ) (at : ℕ) (numbered : (e : ℕ × V) → column (m.rows.row_of e) 0 ≡ number e.0) (named : (e : ℕ × V) → column (m.rows.row_of e) at ≡ Text (name_of e.1)) where
  abbrev has_name : List ℕ → Row → Bool
  has_name name row = passes (Text name ∷ []) (is_text at) (Null ∷ row)

  numbers_are : (name : List ℕ) (es : List (ℕ × V)) → map (cells 0 1) (filter (has_name name) (map m.rows.row_of es)) ≡ map number_row (numbers_named name_of name es)
  numbers_are name es =
      ap (map (cells 0 1)) (filter-map (has_name name) m.rows.row_of es) ∙ map-map (cells 0 1) m.rows.row_of (filter (λ e. has_name name (m.rows.row_of e)) es)
      ∙ ap (λ (f : ℕ × V → Row). map f (filter (λ e. has_name name (m.rows.row_of e)) es)) (λ i e. numbered e i ∷ [])
      ∙ ap (λ (p : ℕ × V → Bool). map (λ e. number_row e.0) (filter p es)) (λ i e. text_passes at name (name_of e.1) (m.rows.row_of e) (named e) i)
      ∙ sym (map-map number_row (λ e. e.0) (filter (λ e. bytes_eq (name_of e.1) name) es))

  pub named_find : {S E : Type 0} (g : Ghosts S) (old new : Held S) (sql name : List ℕ) (r : Result (List ℕ) E) → IsSelectText schema m.rows.table (first_columns 1 (is_text at) m.rows.table) end sql
      → Shows g old new sql (Text name ∷ []) (AllZip (λ row n. number n ≡ column row 0)) r → Finds g old new (λ kept numbers. numbers ≡ numbers_named name_of name (m.entries kept)) r
  named_find g old new sql name r text =
      shown_finds g old new sql (Text name ∷ []) (AllZip (λ row n. number n ≡ column row 0)) (λ kept numbers. numbers ≡ numbers_named name_of name (m.entries kept)) r text.alone (λ numbers rows kept shown was read.
      let are = first_runs schema m.rows.at 1 (is_text at) m.rows.table m.rows.keyed.place sql (Text name ∷ []) text (state g old) (state g new) rows (contents_of kept) shown was.rows
      ∙ ap (λ rows. map (cells 0 1) (filter (has_name name) rows)) (m.stored kept) ∙ numbers_are name (m.entries kept) in
      read_back (λ row n. number n ≡ column row 0) number_row numbers (numbers_named name_of name (m.entries kept)) (λ n k has same. number_kept n k same) (subst (λ rows. AllZip (λ row n. number n ≡ column row 0) rows numbers) are read))
