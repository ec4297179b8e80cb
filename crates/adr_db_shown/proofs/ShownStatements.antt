-- The statements on the table `shown`.
use Rattle.std.proofs.Common.{◌≡◌, ℕ, List, [], ◌∷◌, codes, map, refl, ap₂}
use Rattle.adr_db.proofs.Common.{AllZip, column, Null, lit, col, end, understood, everything, AreValues, IsUpsertText, IsRemoveText, IsSelectText, whole_rows, equalities}
use Rattle.adr_db.specs.declared.shown.ShownColumns.{ShownColumns}
use Rattle.adr_db.specs.declared.shown.ShownKey.{ShownKey}
use Rattle.adr_db.specs.Tables.{schema}
use Rattle.adr_db.specs.Rows.{shown_key_row, shown_columns, shown_row}
use Rattle.adr_db.specs.ReadBack.{number_of, text_of}
use Rattle.adr_db.proofs.Tables.{shown}
use Rattle.adr_db.proofs.KeptMaps.{read_back}
use Rattle.adr_db_shown.specs.declared.shown.TheConstants.{PUT, REMOVE, READ_ONE, READ_OF}
use Rattle.adr_db_shown.specs.Entries.{ReadsShownEntry}

pub puts : (e : ShownKey × ShownColumns) → IsUpsertText schema 12 shown PUT.now (shown_row e) (shown_row e)
unfolding understood everything
puts e = record { terms = lit Null ∷ col 0 0 ∷ col 0 1 ∷ col 0 2 ∷ col 0 3 ∷ col 0 4 ∷ col 0 5 ∷ col 0 6 ∷ []; met = 7; sets = col 0 9 ∷ col 0 10 ∷ col 0 11 ∷ col 0 12 ∷ col 0 13 ∷ col 0 14 ∷ col 0 15 ∷ []; command = refl; alone = (refl, refl); given = refl; meets = λ id next r. refl; writes = λ id next r. refl }

pub fit : (e : ShownKey × ShownColumns) → AreValues shown (shown_row e)
fit e = record { fits = refl; full = refl; width = refl }

pub removes : IsRemoveText schema 12 shown end (equalities 0 2) REMOVE.now
unfolding understood everything
removes = record { command = refl; alone = (refl, refl); flat = refl; joins = refl }

abbrev columns : List (List ℕ)
columns = codes "event" ∷ codes "resource" ∷ codes "program" ∷ codes "ven" ∷ codes "ven_name" ∷ codes "resource_name" ∷ codes "body" ∷ []

pub reads_one : IsSelectText schema shown (whole_rows 2 shown) end READ_ONE.now
unfolding understood everything
reads_one = record { names = columns; command = refl; alone = (refl, refl); unlisted = refl; from = refl; order = refl; ungrouped = refl; undistinct = refl; joins = refl; sorts = refl; shows = refl }

pub reads_of : IsSelectText schema shown (whole_rows 1 shown) end READ_OF.now
unfolding understood everything
reads_of = record {
  names = columns;
  command = refl;
  alone = (refl, refl);
  unlisted = refl;
  from = refl;
  order = refl;
  ungrouped = refl;
  undistinct = refl;
  joins = refl;
  sorts = refl;
  shows = refl;
}

-- ---- rows that are read

key_kept : (j k : ShownKey) → shown_key_row j ≡ shown_key_row k → j ≡ k
key_kept j k h = λ i. record { event = text_of (column (h i) 0); resource = number_of (column (h i) 1) }

pub columns_kept : (a b : ShownColumns) → shown_columns a ≡ shown_columns b → a ≡ b
columns_kept a b h = λ i. record { program = text_of (column (h i) 0); ven = number_of (column (h i) 1); ven_name = text_of (column (h i) 2); resource_name = text_of (column (h i) 3); body = text_of (column (h i) 4) }

pub shown_read : (es read : List (ShownKey × ShownColumns)) → AllZip ReadsShownEntry (map shown_row es) read → read ≡ es
shown_read es read = read_back ReadsShownEntry shown_row read es (λ x y has reads. ap₂ (λ (k : ShownKey) (c : ShownColumns). (k, c)) (key_kept x.0 y.0 reads.0) (columns_kept x.1 y.1 reads.1))
