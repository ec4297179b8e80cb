-- A table that stands for a map, and the statements on it.
use Rattle.std.proofs.Common.{◌≡◌, ℕ, true, Ok, List, [], map, length, fold, refl, sym, ap, subst, ◌∙◌, Ordering, Less}
use Rattle.adr_sql.proofs.Common.{insert_entry, is_at, remove_entry, lookup, Row, IsAscending, ascending_weaker, ascending_from_map, filter_all, filter_none, all_of, Table, Schema, end, State, Executes, Shown}
use Rattle.adr_sql.specs.Keys.{key_order, with_row, rows_at, rows_without}
use Rattle.adr_sql.specs.Codecs.{IsCodec, entry_at}
use Rattle.adr_sql.specs.Contents.{Contents, rows_of_table, with_table, Holds}
use Rattle.adr_sql.proofs.Keys.{are_full}
use Rattle.adr_sql.proofs.Places.{stores_at}
use Rattle.adr_sql.proofs.Values.{AreValues}
use Rattle.adr_sql.proofs.References.{is_childless}
use Rattle.adr_sql.proofs.Upserts.{IsKeyed, IsUpsertText, upsert_runs}
use Rattle.adr_sql.proofs.Removals.{IsRemoveText, remove_at_runs}
use Rattle.adr_sql.proofs.Joins.{IsSelectText}
use Rattle.adr_sql.proofs.Selections.{whole_rows, equalities, read_runs}
use Rattle.adr_sql.proofs.Maps.{put_entry, remove_entry_is, read_entry}
use Rattle.adr_sql.proofs.Rising.{map_again, rise}

-- a table with its place in the schema, and how a map is kept in it
pub record KeyedMap (schema : Schema) (K V : Type 0) : Type 0 where
  pub at : ℕ
  pub table : Table
  pub keyed : IsKeyed schema at table
  pub cmp : K → K → Ordering
  pub row_of : K × V → Row
  pub key_of : K → Row
  pub codec : IsCodec (length table.primary) cmp row_of key_of

-- every row begins with none of a key
rows_at_none : (key : Row) (rows : List Row) → rows_at 0 key rows ≡ rows
rows_at_none key rows = filter_all _ rows (all_of _ (λ row. refl) rows)

rows_without_none : (key : Row) (rows : List Row) → rows_without 0 key rows ≡ []
rows_without_none key rows = filter_none _ rows (all_of _ (λ row. refl) rows)

module _ {schema : Schema} {K V : Type 0} (m : KeyedMap schema K V) where
  abbrev pub key_width : ℕ
  key_width = length m.table.primary

  -- the table holds these entries among all that the tables hold
  module _ (all : Contents) (es : List (K × V)) (is : rows_of_table all m.at ≡ map m.row_of es) where
    rows_rise : (s : State) → Holds schema all s → IsAscending (λ a b. key_order key_width a b ≡ Less) (map m.row_of es)
    rows_rise s held = subst (IsAscending (λ a b. key_order key_width a b ≡ Less)) is (stores_at schema.tables m.at m.table s.now.trees all m.keyed.place.found held.each).rising

    -- their keys rise
    pub entries_rise : (s : State) → Holds schema all s → IsAscending (λ a b. m.cmp a.0 b.0 ≡ Less) es
    entries_rise s held =
        ascending_weaker _ (λ a b. m.cmp a.0 b.0 ≡ Less) (λ (a b : K × V) (h : key_order key_width (m.row_of a) (m.row_of b) ≡ Less). sym (m.codec.keyed a.0 a.1 b) ∙ h) es
        (ascending_from_map (λ a b. key_order key_width a b ≡ Less) m.row_of es (rows_rise s held))

    -- they are the map that they make, put one after another
    pub entries_again : (s : State) → Holds schema all s → fold (λ map e. insert_entry m.cmp map e.0 e.1) [] es ≡ es
    entries_again s held = map_again m.cmp es (rise key_width (λ (a b : K × V). m.cmp a.0 b.0) m.row_of (λ a b. m.codec.keyed a.0 a.1 b) es (rows_rise s held))

    -- without the entry of a key
    pub rows_left : (k : K) (s : State) → Holds schema all s → rows_without key_width (m.key_of k) (map m.row_of es) ≡ map m.row_of (remove_entry (is_at (m.cmp k)) es)
    rows_left k s held = remove_entry_is key_width m.cmp m.row_of m.key_of m.codec k es (rows_rise s held)

    module _ (sql : List ℕ) (params : Row) (old new : State) where
      -- a put, over the row of the key where it stands
      pub upsert_entry_runs : (k : K) (v : V) → IsUpsertText schema m.at m.table sql params (m.row_of (k, v)) → AreValues m.table (m.row_of (k, v)) → (count : ℕ) → Executes sql params old new (Ok count) → Holds schema all old
          → Holds schema (with_table all m.at (map m.row_of (insert_entry m.cmp es k v))) new
      upsert_entry_runs k v text are count h was =
          subst (λ rows. Holds schema (with_table all m.at rows) new) (ap (with_row key_width (m.row_of (k, v))) is ∙ put_entry key_width m.cmp m.row_of m.key_of m.codec k v es)
          (upsert_runs schema m.at m.table m.keyed sql params (m.row_of (k, v)) text are old new count all h was)

      -- all rows go, of a table to which no reference points
      pub clear_runs : is_childless schema m.table.tree ≡ true → IsRemoveText schema m.at m.table end [] sql → (count : ℕ) → Executes sql params old new (Ok count) → Holds schema all old → Holds schema (with_table all m.at []) new
      clear_runs childless text count h was =
          subst (λ rows. Holds schema (with_table all m.at rows) new) (rows_without_none params (rows_of_table all m.at)) (remove_at_runs schema m.at 0 m.table m.keyed.place childless sql params text refl old new count all h was)

      -- all rows are read
      pub read_all_runs : IsSelectText schema m.table (whole_rows 0 m.table) end sql → (rows : List Row) → Shown sql params old new rows → Holds schema all old → rows ≡ map m.row_of es
      read_all_runs text rows h was = read_runs schema m.at 0 m.table m.keyed.place sql params text refl old new rows all h was ∙ rows_at_none params (rows_of_table all m.at) ∙ is

    -- by the whole key
    module _ (sql : List ℕ) (old new : State) (k : K) (full : are_full 0 key_width (m.key_of k) ≡ true) where
      -- the entry goes, of a table to which no reference points
      pub remove_entry_runs : is_childless schema m.table.tree ≡ true → IsRemoveText schema m.at m.table end (equalities 0 key_width) sql → (count : ℕ) → Executes sql (m.key_of k) old new (Ok count) → Holds schema all old
          → Holds schema (with_table all m.at (map m.row_of (remove_entry (is_at (m.cmp k)) es))) new
      remove_entry_runs childless text count h was =
          subst (λ rows. Holds schema (with_table all m.at rows) new) (ap (rows_without key_width (m.key_of k)) is ∙ rows_left k old was)
          (remove_at_runs schema m.at key_width m.table m.keyed.place childless sql (m.key_of k) text full old new count all h was)

      -- the entry is read
      pub read_entry_runs : IsSelectText schema m.table (whole_rows key_width m.table) end sql → (rows : List Row) → Shown sql (m.key_of k) old new rows → Holds schema all old → rows ≡ map m.row_of (entry_at k (lookup (is_at (m.cmp k)) es))
      read_entry_runs text rows h was =
          read_runs schema m.at key_width m.table m.keyed.place sql (m.key_of k) text full old new rows all h was
          ∙ ap (rows_at key_width (m.key_of k)) is ∙ read_entry key_width m.cmp m.row_of m.key_of m.codec k es (rows_rise old was)
