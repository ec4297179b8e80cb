-- The rows of a table that is a map, of which the first columns of the key are the parameters; or which pass other tests.
use Rattle.std.proofs.Common.{◌≡◌, ℕ, Bool, true, List, ◌∷◌, map, filter, Result, ap, subst, ◌∙◌}
use Rattle.adr_db.proofs.Common.{AllZip, Null, Row, filter-map, map-map, end, Ghosts, Held, state, State, Shown, cells, has_key, are_full, IsSelectText, first_columns, first_runs, passes, whole_rows, read_runs}
use Rattle.sqlite_sql.specs.Term.{Term}
use Rattle.adr_db.specs.Tables.{schema}
use Rattle.adr_db.specs.Kept.{Kept, Keeps, contents_of}
use Rattle.adr_db.specs.Calls.{Finds, Shows}
use Rattle.adr_db.proofs.Calls.{shown_finds}
use Rattle.adr_db.proofs.KeptMaps.{KeptMap, AreTexts}

module _ {K V : Type 0} (m : KeptMap K V) where
  -- the entries of which the first columns are these
  module _ (k : ℕ) (params : Row) (is_in : K × V → Bool) (begins : (e : K × V) → has_key k params (m.rows.row_of e) ≡ is_in e) where
    abbrev pub in_range : Kept → List (K × V)
    in_range kept = filter is_in (m.entries kept)

    rows_in_range : (sql : List ℕ) → are_full 0 k params ≡ true → IsSelectText schema m.rows.table (whole_rows k m.rows.table) end sql → (old new : State) (rows : List Row) (kept : Kept) → Shown sql params old new rows → Keeps kept old
        → rows ≡ map m.rows.row_of (in_range kept)
    rows_in_range sql full text old new rows kept shown was =
        read_runs schema m.rows.at k m.rows.table m.rows.keyed.place sql params text full old new rows (contents_of kept) shown was.rows
        ∙ ap (filter (has_key k params)) (m.stored kept) ∙ filter-map (has_key k params) m.rows.row_of (m.entries kept)
        ∙ ap (λ (p : K × V → Bool). map m.rows.row_of (filter p (m.entries kept))) (λ i e. begins e i)

    pub range_finds : {T S E : Type 0} (Reads : Row → T → Type 0) (IsRight : Kept → List T → Type 0) (g : Ghosts S) (old new : Held S) (sql : List ℕ) (r : Result (List T) E) → are_full 0 k params ≡ true
        → IsSelectText schema m.rows.table (whole_rows k m.rows.table) end sql → ((ts : List T) (kept : Kept) → AreTexts kept → AllZip Reads (map m.rows.row_of (in_range kept)) ts → IsRight kept ts)
        → Shows g old new sql params (AllZip Reads) r → Finds g old new IsRight r
    range_finds Reads IsRight g old new sql r full text right =
        shown_finds g old new sql params (AllZip Reads) IsRight r text.alone (λ ts rows kept shown was read.
        right ts kept (was.marks, was.subs) (subst (λ rows. AllZip Reads rows ts) (rows_in_range sql full text (state g old) (state g new) rows kept shown was) read))

  -- the first columns of the entries that pass tests
  module _ (wide : ℕ) (terms : List Term) (params : Row) (is_in : K × V → Bool) (tests : (e : K × V) → passes params terms (Null ∷ m.rows.row_of e) ≡ is_in e) where
    cells_picked : (sql : List ℕ) → IsSelectText schema m.rows.table (first_columns wide terms m.rows.table) end sql → (old new : State) (rows : List Row) (kept : Kept) → Shown sql params old new rows → Keeps kept old
        → rows ≡ map (λ e. cells 0 wide (m.rows.row_of e)) (filter is_in (m.entries kept))
    cells_picked sql text old new rows kept shown was =
        let passed = λ (row : Row). passes params terms (Null ∷ row) in
        first_runs schema m.rows.at wide terms m.rows.table m.rows.keyed.place sql params text old new rows (contents_of kept) shown was.rows
        ∙ ap (λ all. map (cells 0 wide) (filter passed all)) (m.stored kept)
        ∙ ap (map (cells 0 wide)) (filter-map passed m.rows.row_of (m.entries kept)) ∙ map-map (cells 0 wide) m.rows.row_of (filter (λ e. passed (m.rows.row_of e)) (m.entries kept))
        ∙ ap (λ (p : K × V → Bool). map (λ e. cells 0 wide (m.rows.row_of e)) (filter p (m.entries kept))) (λ i e. tests e i)

    pub picked_finds : {T S E : Type 0} (Reads : Row → T → Type 0) (IsRight : Kept → List T → Type 0) (g : Ghosts S) (old new : Held S) (sql : List ℕ) (r : Result (List T) E)
        → IsSelectText schema m.rows.table (first_columns wide terms m.rows.table) end sql → ((ts : List T) (kept : Kept) → AreTexts kept → AllZip Reads (map (λ e. cells 0 wide (m.rows.row_of e)) (filter is_in (m.entries kept))) ts → IsRight kept ts)
        → Shows g old new sql params (AllZip Reads) r → Finds g old new IsRight r
    picked_finds Reads IsRight g old new sql r text right =
        shown_finds g old new sql params (AllZip Reads) IsRight r text.alone (λ ts rows kept shown was read.
        right ts kept (was.marks, was.subs) (subst (λ rows. AllZip Reads rows ts) (cells_picked sql text (state g old) (state g new) rows kept shown was) read))
