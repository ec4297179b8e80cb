-- Tables of version 1 are made, and become those of today.
use Rattle.std.proofs.Common.{◌≡◌, ℕ, List, [], ◌∷◌, ◌++◌, map, filter, take, drop, Ok, refl, sym, ap, ap₂, subst, ◌∙◌}
use Rattle.adr_db.proofs.Common.{Null, Row, lit, col, State, Executes, Shown, understood, everything, with_row, cells, Contents, rows_of_table, with_table, Holds, AreValues, IsUpsertText, upsert_runs, first_runs, passes}
use Rattle.adr_db.specs.declared.meta.Meta.{Meta}
use Rattle.adr_db.specs.declared.meta.TheConstants.{READ}
use Rattle.adr_db.specs.declared.migration.TheConstants.{PUT_FIRST}
use Rattle.adr_db.specs.Tables.{schema, version, first_schema, first_version}
use Rattle.adr_db.specs.Rows.{number, meta_row, event_key_row, frozen_share_row}
use Rattle.adr_db.specs.Kept.{Kept, first_meta, contents_of}
use Rattle.adr_db.specs.FirstVersion.{first_row, first_contents, NothingIsFrozen}
use Rattle.adr_db.specs.Versions.{SayVersion}
use Rattle.adr_db.proofs.MetaStatements.{one_row, reads}
use Rattle.adr_db.proofs.Rows.{meta_kept}
use Rattle.adr_db.proofs.Tables.{meta, meta_keyed, first_meta_keyed}

-- ---- the numbers of a new node

puts : IsUpsertText first_schema 0 meta PUT_FIRST.now [] (first_row first_meta)
unfolding understood everything
puts = record {
  terms = lit Null ∷ lit (number 1) ∷ lit (number 1) ∷ lit (number 0) ∷ lit (number 0) ∷ lit (number 0) ∷ lit (number 0) ∷ lit (number 0) ∷ lit (number 0) ∷ lit (number 0) ∷ lit (number 0) ∷ lit (number 0) ∷ lit (number 0) ∷ lit (number 0) ∷ lit (number 0) ∷ lit (number 0) ∷ lit (number 0) ∷ [];
  met = 0;
  sets = col 0 2 ∷ col 0 3 ∷ col 0 4 ∷ col 0 5 ∷ col 0 6 ∷ col 0 7 ∷ col 0 8 ∷ col 0 9 ∷ col 0 10 ∷ col 0 11 ∷ col 0 12 ∷ col 0 13 ∷ col 0 14 ∷ col 0 15 ∷ col 0 16 ∷ col 0 17 ∷ [];
  command = refl;
  alone = (refl, refl);
  given = refl;
  meets = λ id next r. refl;
  writes = λ id next r. refl;
}

values : AreValues meta (first_row first_meta)
values = record { fits = refl; full = refl; width = refl }

pub first_put : (old new : State) (count : ℕ) (all : Contents) → Executes PUT_FIRST.now [] old new (Ok count) → Holds first_schema all old → Holds first_schema (with_table all 0 (with_row 1 (first_row first_meta) (rows_of_table all 0))) new
first_put = upsert_runs first_schema 0 meta first_meta_keyed PUT_FIRST.now [] (first_row first_meta) puts values

-- ---- the numbers that are read

-- the one row of `meta` is shown as it stands
pub first_read : (old new : State) (rows : List Row) (all : Contents) (said : Meta) → Shown READ.now [] old new rows → Holds schema all old → rows_of_table all 0 ≡ first_row said ∷ [] → rows ≡ first_row said ∷ []
first_read old new rows all said shown was says =
    first_runs schema 0 16 [] meta meta_keyed.place READ.now [] reads old new rows all shown was
    ∙ ap (λ (rows : List Row). map (cells 0 16) (filter (λ e. passes [] [] (Null ∷ e)) rows)) says

-- and stands for its numbers alone
pub first_kept : (a b : Meta) → first_row a ≡ first_row b → a ≡ b
first_kept a b is = meta_kept a b (ap (λ (row : Row). number 1 ∷ number version ∷ drop 2 row) is)

-- ---- the rows that are left

-- the row of today takes the place of that of version 1
pub said_row : (numbers said : Meta) (rows : List Row) → numbers ≡ said → rows ≡ first_row said ∷ [] → with_row 1 (meta_row numbers) rows ≡ meta_row said ∷ []
said_row numbers said rows same says = ap (with_row 1 (meta_row numbers)) says ∙ one_row numbers said first_version ∙ ap (λ (m : Meta). meta_row m ∷ []) same

-- and the two tables that are made are what is kept of a portfolio in which nothing is frozen
pub migrated_rows : (kept : Kept) (s : State) → NothingIsFrozen kept.portfolio → Holds schema (with_table (first_contents kept ++ [] ∷ [] ∷ []) 0 (meta_row kept.meta ∷ [])) s → Holds schema (contents_of kept) s
migrated_rows kept s none h =
    let others : Contents = take 14 (drop 1 (contents_of kept)) in
    let events : ◌≡◌ {A = List Row} [] (map (λ e. event_key_row e.0) kept.portfolio.frozen) = sym (ap (map (λ e. event_key_row e.0)) none.events) in
    let shares : ◌≡◌ {A = List Row} [] (map frozen_share_row kept.portfolio.frozen_shares) = sym (ap (map frozen_share_row) none.shares) in
    subst (λ (all : Contents). Holds schema all s)
    (ap₂ (λ (e s : List Row). (meta_row kept.meta ∷ []) ∷ others ++ e ∷ s ∷ []) events shares) h

-- ---- the version that is said

-- tables of today don't say version 1, nor those of version 1 that of today
pub not_first : (m : Meta) → SayVersion first_version (meta_row m ∷ []) → ⊥
not_first m said = (let no : number version ≡ number first_version = said in cc)

pub not_today : (m : Meta) → SayVersion version (first_row m ∷ []) → ⊥
not_today m said = (let no : number first_version ≡ number version = said in cc)
