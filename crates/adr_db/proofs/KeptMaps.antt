-- A table that is one of the maps that are kept, and what the calls on it leave and find.
use Rattle.std.proofs.Common.{◌≡◌, inl, inr, ℕ, true, List, [], ◌∷◌, map, take, Option, None, Some, Result, refl, ap₂, subst, Less}
use Rattle.std.specs.Prelude.{option_to_list}
use Rattle.adr_db.proofs.Common.{AllZip, is_at, insert_entry, Row, IsAscending, Has, end, Ghosts, Held, state, State, at, map_of, rows_of_table, with_table, Holds, Runs, are_full, AreValues, IsUpsertText, IsRemoveText, IsSelectText, whole_rows, equalities}
use Rattle.std.specs.Map.{remove_entry}
use Rattle.adr_sql.specs.Codecs.{entry_at}
use Rattle.adr_sql.proofs.References.{is_childless}
use Rattle.adr_sql.proofs.KeyedMaps.{KeyedMap, key_width, entries_rise, entries_again, upsert_entry_runs, clear_runs, remove_entry_runs, read_entry_runs}
use Rattle.adr_db.specs.Tables.{schema}
use Rattle.adr_db.specs.Kept.{Kept, Keeps, AreMarks, AreSubs, contents_of}
use Rattle.adr_db.specs.Calls.{LeavesKept, Finds, Shows}
use Rattle.adr_db.proofs.Calls.{run_leaves, shown_finds}

-- the rows of its table, and the entries that they stand for
pub record StoredMap (K V : Type 0) : Type 0 where
  pub rows : KeyedMap schema K V
  pub entries : Kept → List (K × V)
  pub stored : (kept : Kept) → rows_of_table (contents_of kept) rows.at ≡ map rows.row_of (entries kept)

-- so of a table on which no other follows, with what is kept where it has other entries
pub record KeptMap (K V : Type 0) : Type 0 where
  pub rows : KeyedMap schema K V
  pub entries : Kept → List (K × V)
  pub with_entries : List (K × V) → Kept → Kept
  pub stored : (kept : Kept) → rows_of_table (contents_of kept) rows.at ≡ map rows.row_of (entries kept)
  pub changed : (es : List (K × V)) (kept : Kept) → with_table (contents_of kept) rows.at (map rows.row_of es) ≡ contents_of (with_entries es kept)

-- the texts that are kept read back: each version and each subscription says what the types admit
abbrev pub AreTexts : Kept → Type 0
AreTexts kept = AreMarks kept.mirror × AreSubs kept.portfolio.subs

-- what `refl` finds of the texts on a table that put, remove and read an entry, and of its values
pub record HasTextsOn {K V : Type 0} (m : KeyedMap schema K V) (put remove one : List ℕ) : Type 0 where
  pub puts : (e : K × V) → IsUpsertText schema m.at m.table put (m.row_of e) (m.row_of e)
  pub fit : (e : K × V) → AreValues m.table (m.row_of e)
  pub removes : IsRemoveText schema m.at m.table end (equalities 0 (key_width m)) remove
  pub reads_one : IsSelectText schema m.table (whole_rows (key_width m) m.table) end one

abbrev pub HasTexts : {K V : Type 0} → KeptMap K V → List ℕ → List ℕ → List ℕ → Type 0
HasTexts m = HasTextsOn m.rows

-- rows are read as what they stand for, where each is
pub read_back : {X : Type 0} (Reads : Row → X → Type 0) (row_of : X → Row) (xs ys : List X) → ((x y : X) → Has ys y → Reads (row_of y) x → x ≡ y) → AllZip Reads (map row_of ys) xs → xs ≡ ys
read_back Reads row_of [] [] back h = refl
read_back Reads row_of [] (y ∷ ys) back h = absurd h
read_back Reads row_of (x ∷ xs) [] back h = absurd h
read_back Reads row_of (x ∷ xs) (y ∷ ys) back h = ap₂ ◌∷◌ (back x y (inl refl) h.0) (read_back Reads row_of xs ys (λ x y has. back x y (inr has)) h.1)

-- ---- what is read

module _ {K V : Type 0} (m : StoredMap K V) where
  module _ (kept : Kept) (s : State) (was : Keeps kept s) where
    pub stored_rises : IsAscending (λ a b. m.rows.cmp a.0 b.0 ≡ Less) (m.entries kept)
    stored_rises = entries_rise m.rows (contents_of kept) (m.entries kept) (m.stored kept) s was.rows

    -- read whole, it is the map that it makes
    pub stored_again : map_of m.rows.cmp (m.entries kept) ≡ m.entries kept
    stored_again = entries_again m.rows (contents_of kept) (m.entries kept) (m.stored kept) s was.rows

  module _ {S E : Type 0} (g : Ghosts S) (old new : Held S) (sql : List ℕ) where
    -- the row of a key is read, where there is one
    pub stored_one_finds : {T : Type 0} (Reads : Row → T → Type 0) (IsRight : Option T → Option V → Type 0) (k : K) (r : Result (Option T) E) → are_full 0 (key_width m.rows) (m.rows.key_of k) ≡ true
        → IsSelectText schema m.rows.table (whole_rows (key_width m.rows) m.rows.table) end sql → IsRight None None → ((t : T) (v : V) → Reads (m.rows.row_of (k, v)) t → IsRight (Some t) (Some v))
        → Shows g old new sql (m.rows.key_of k) (λ rows found. AllZip Reads (take 1 rows) (option_to_list found)) r → Finds g old new (λ kept found. IsRight found (at m.rows.cmp k (m.entries kept))) r
    stored_one_finds {T = T} Reads IsRight k r full text none some =
        shown_finds g old new sql (m.rows.key_of k) (λ rows found. AllZip Reads (take 1 rows) (option_to_list found)) (λ kept found. IsRight found (at m.rows.cmp k (m.entries kept))) r text.alone (λ found rows kept shown was read.
        by (at m.rows.cmp k (m.entries kept)) found
        (subst (λ rows. AllZip Reads (take 1 rows) (option_to_list found)) (read_entry_runs m.rows (contents_of kept) (m.entries kept) (m.stored kept) sql (state g old) (state g new) k full text rows shown was.rows) read))
      where
        by : (there : Option V) (found : Option T) → AllZip Reads (take 1 (map m.rows.row_of (entry_at k there))) (option_to_list found) → IsRight found there
        by None None read = none
        by None (Some t) read = absurd read
        by (Some v) None read = absurd read
        by (Some v) (Some t) read = some t v read.0

-- ---- so of a table on which no other follows, and what is written there

module _ {K V : Type 0} (m : KeptMap K V) where
  abbrev stored_map : StoredMap K V
  stored_map = record { rows = m.rows; entries = m.entries; stored = m.stored }

  abbrev pub with_put : K → V → Kept → Kept
  with_put k v kept = m.with_entries (insert_entry m.rows.cmp (m.entries kept) k v) kept

  abbrev pub without : K → Kept → Kept
  without k kept = m.with_entries (remove_entry (is_at (m.rows.cmp k)) (m.entries kept)) kept

  -- after a change they still do
  abbrev pub KeepsTexts : (Kept → Kept) → Type 0
  KeepsTexts change = (kept : Kept) → AreTexts kept → AreTexts (change kept)

  pub rises : (kept : Kept) (s : State) → Keeps kept s → IsAscending (λ a b. m.rows.cmp a.0 b.0 ≡ Less) (m.entries kept)
  rises = stored_rises stored_map

  pub again : (kept : Kept) (s : State) → Keeps kept s → map_of m.rows.cmp (m.entries kept) ≡ m.entries kept
  again = stored_again stored_map

  abbrev keeps : (es : List (K × V)) (kept : Kept) (s : State) → AreTexts (m.with_entries es kept) → Holds schema (with_table (contents_of kept) m.rows.at (map m.rows.row_of es)) s → Keeps (m.with_entries es kept) s
  keeps es kept s are h = record { rows = subst (λ all. Holds schema all s) (m.changed es kept) h; marks = are.0; subs = are.1 }

  module _ {S E : Type 0} (g : Ghosts S) (old new : Held S) (sql : List ℕ) where
    pub put_leaves : (params : Row) (k : K) (v : V) (r : Result Unit E) → IsUpsertText schema m.rows.at m.rows.table sql params (m.rows.row_of (k, v)) → AreValues m.rows.table (m.rows.row_of (k, v)) → KeepsTexts (with_put k v)
        → Runs g old new sql params r → LeavesKept g old new (with_put k v) r
    put_leaves params k v r text fit texts =
        run_leaves g old new sql params (with_put k v) r (λ count h kept was.
        keeps (insert_entry m.rows.cmp (m.entries kept) k v) kept (state g new) (texts kept (was.marks, was.subs)) (upsert_entry_runs m.rows (contents_of kept) (m.entries kept) (m.stored kept) sql params (state g old) (state g new) k v text fit count h was.rows))

    pub remove_leaves : (k : K) (r : Result Unit E) → are_full 0 (key_width m.rows) (m.rows.key_of k) ≡ true → is_childless schema m.rows.table.tree ≡ true → IsRemoveText schema m.rows.at m.rows.table end (equalities 0 (key_width m.rows)) sql → KeepsTexts (without k)
        → Runs g old new sql (m.rows.key_of k) r → LeavesKept g old new (without k) r
    remove_leaves k r full childless text texts =
        run_leaves g old new sql (m.rows.key_of k) (without k) r (λ count h kept was.
        keeps (remove_entry (is_at (m.rows.cmp k)) (m.entries kept)) kept (state g new) (texts kept (was.marks, was.subs)) (remove_entry_runs m.rows (contents_of kept) (m.entries kept) (m.stored kept) sql (state g old) (state g new) k full childless text count h was.rows))

    pub clear_leaves : (r : Result Unit E) → is_childless schema m.rows.table.tree ≡ true → IsRemoveText schema m.rows.at m.rows.table end [] sql → KeepsTexts (m.with_entries []) → Runs g old new sql [] r → LeavesKept g old new (m.with_entries []) r
    clear_leaves r childless text texts =
        run_leaves g old new sql [] (m.with_entries []) r (λ count h kept was.
        keeps [] kept (state g new) (texts kept (was.marks, was.subs)) (clear_runs m.rows (contents_of kept) (m.entries kept) (m.stored kept) sql [] (state g old) (state g new) childless text count h was.rows))

    pub one_finds : {T : Type 0} (Reads : Row → T → Type 0) (IsRight : Option T → Option V → Type 0) (k : K) (r : Result (Option T) E) → are_full 0 (key_width m.rows) (m.rows.key_of k) ≡ true
        → IsSelectText schema m.rows.table (whole_rows (key_width m.rows) m.rows.table) end sql → IsRight None None → ((t : T) (v : V) → Reads (m.rows.row_of (k, v)) t → IsRight (Some t) (Some v))
        → Shows g old new sql (m.rows.key_of k) (λ rows found. AllZip Reads (take 1 rows) (option_to_list found)) r → Finds g old new (λ kept found. IsRight found (at m.rows.cmp k (m.entries kept))) r
    one_finds = stored_one_finds stored_map g old new sql
