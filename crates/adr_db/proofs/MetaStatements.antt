-- The statements on the table `meta`.
use Rattle.std.proofs.Common.{◌≡◌, ℕ, pos, List, [], ◌∷◌, codes, drop, Ok, refl, ap, subst, Ordering}
use Rattle.adr_db.proofs.Common.{match_ordering, Null, Row, lit, col, end, State, Executes, Shown, understood, everything, with_row, Contents, rows_of_table, with_table, Holds, AreValues, IsUpsertText, upsert_runs, IsSelectText, first_columns, first_runs, number_key}
use Rattle.adr_db.specs.declared.meta.Meta.{Meta}
use Rattle.adr_db.specs.declared.meta.TheConstants.{PUT, READ}
use Rattle.adr_db.specs.Tables.{schema, version}
use Rattle.adr_db.specs.Rows.{number, versioned_row, meta_row, meta_numbers}
use Rattle.adr_db.specs.Kept.{Kept, Keeps, contents_of, with_meta}
use Rattle.adr_db.proofs.Tables.{meta, meta_keyed}

puts : (m : Meta) → IsUpsertText schema 0 meta PUT.now (meta_numbers m) (meta_row m)
unfolding understood everything
puts m = record {
  terms = lit Null ∷ lit (number 1) ∷ lit (number 2) ∷ col 0 0 ∷ col 0 1 ∷ col 0 2 ∷ col 0 3 ∷ col 0 4 ∷ col 0 5 ∷ col 0 6 ∷ col 0 7 ∷ col 0 8 ∷ col 0 9 ∷ col 0 10 ∷ col 0 11 ∷ col 0 12 ∷ col 0 13 ∷ [];
  met = 14;
  sets = col 0 16 ∷ col 0 17 ∷ col 0 18 ∷ col 0 19 ∷ col 0 20 ∷ col 0 21 ∷ col 0 22 ∷ col 0 23 ∷ col 0 24 ∷ col 0 25 ∷ col 0 26 ∷ col 0 27 ∷ col 0 28 ∷ col 0 29 ∷ col 0 30 ∷ col 0 31 ∷ [];
  command = refl;
  alone = (refl, refl);
  given = refl;
  meets = λ id next r. refl;
  writes = λ id next r. refl;
}

values : (m : Meta) → AreValues meta (meta_row m)
values m = record { fits = refl; full = refl; width = refl }

pub meta_put : (m : Meta) (old new : State) (count : ℕ) (all : Contents) → Executes PUT.now (meta_numbers m) old new (Ok count) → Holds schema all old → Holds schema (with_table all 0 (with_row 1 (meta_row m) (rows_of_table all 0))) new
meta_put m = upsert_runs schema 0 meta meta_keyed PUT.now (meta_numbers m) (meta_row m) (puts m) (values m)

-- the new row takes the place of the old one
pub one_row : (m n : Meta) (says : ℕ) → with_row 1 (meta_row m) (versioned_row says n ∷ []) ≡ meta_row m ∷ []
one_row m n says = ap (λ (o : Ordering). match_ordering o (versioned_row says n ∷ with_row 1 (meta_row m) []) (meta_row m ∷ []) (meta_row m ∷ versioned_row says n ∷ [])) (number_key (pos 1) (pos 1) (drop 1 (versioned_row says n)) (drop 1 (meta_row m)))

pub keeps_meta : (m : Meta) (kept : Kept) (old new : State) → Keeps kept old → Holds schema (with_table (contents_of kept) 0 (with_row 1 (meta_row m) (rows_of_table (contents_of kept) 0))) new → Keeps (with_meta m kept) new
keeps_meta m kept old new was h = record { rows = subst (λ rows. Holds schema (with_table (contents_of kept) 0 rows) new) (one_row m kept.meta version) h; marks = was.marks; subs = was.subs }

pub reads : IsSelectText schema meta (first_columns 16 [] meta) end READ.now
unfolding understood everything
reads = record {
  names = codes "k" ∷ codes "version" ∷ codes "serial" ∷ codes "scan" ∷ codes "made" ∷ codes "sent" ∷ codes "given_up" ∷ codes "dropped" ∷ codes "pending" ∷ codes "keys" ∷ codes "vens" ∷ codes "resources" ∷ codes "shares" ∷ codes "reports" ∷ codes "subs" ∷ codes "frozen" ∷ [];
  command = refl;
  alone = (refl, refl);
  unlisted = refl;
  from = refl;
  order = refl;
  ungrouped = refl;
  undistinct = refl;
  joins = refl;
  sorts = refl;
  shows = refl;
}

pub meta_read : (old new : State) (rows : List Row) (kept : Kept) → Shown READ.now [] old new rows → Keeps kept old → rows ≡ meta_row kept.meta ∷ []
meta_read old new rows kept h was = first_runs schema 0 16 [] meta meta_keyed.place READ.now [] reads old new rows (contents_of kept) h was.rows
