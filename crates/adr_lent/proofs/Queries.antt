-- What the queries on the table `shown` are, and what they select.
use Rattle.std.proofs.Common.{◌≡◌, ℕ, Bool, false, List, [], ◌∷◌, ◌++◌, take, drop, Option, Some, None, codes, map, filter, refl, ap, ap₂, ◌∙◌}
use Rattle.std.proofs.lemmas.List.{take-map, drop-map}
use Rattle.sqlite_value.specs.declared.value.Value.{Value}
use Rattle.sqlite.specs.Values.{bound_value}
use Rattle.sqlite_sql.specs.Query.{Join, Query}
use Rattle.sqlite_sql.specs.Term.{Term}
use Rattle.adr_db.proofs.Common.{Null, Row, inner, col, end, Ghosts, Held, state, State, Shown, understood, everything, IsSelectText, order_from, select_runs, passes, is_text, text_passes, filter-map, map-map, cells}
use Rattle.adr_sql.proofs.Common.{Table}
use Rattle.adr_sql.proofs.Joins.{columns_from, shown_cells}
use Rattle.adr_queries.specs.declared.query.Page.{Page}
use Rattle.adr_db.specs.Tables.{schema}
use Rattle.adr_db.specs.Kept.{Kept, Keeps, contents_of}
use Rattle.adr_db.specs.Rows.{shown_row}
use Rattle.adr_db.proofs.Tables.{shown, shown_keyed}
use Rattle.adr_db.proofs.Maps.{shown_map}
use Rattle.adr_db_portfolio.proofs.Numbers.{number_passes}
use Rattle.adr_lent.specs.declared.picked.Picked.{Picked}
use Rattle.adr_lent.specs.declared.picked.Picked.TheVariants.{All, OfVen, OfProgram, OfVenName, OfResourceName}
use Rattle.adr_lent.specs.declared.shown.TheConstants.{READ_ALL, READ_OF_VEN, READ_OF_PROGRAM, READ_OF_VEN_NAME, READ_OF_RESOURCE_NAME}
use Rattle.adr_lent.specs.Texts.{IsQueryText}
use Rattle.adr_lent.specs.Selections.{Selects}
use Rattle.adr_lent.specs.Pages.{ShownEntry}
use Rattle.adr_lent.specs.Picks.{picks, part_of, text_for, key_cell, limit_cell, skip_cell, picked_row, part_rows}
use Rattle.adr_lent.proofs.Streams.{lent_begin}

-- a query that shows this, of whatever is kept, selects it
module _ {S : Type 0} (g : Ghosts S) (sql : List ℕ) (params : Row) {table : Table} {rest : Join} (q : Query) (selection : Kept → List Row) (text : IsSelectText schema table q rest sql)
    (means : (old new : State) (rows : List Row) (kept : Kept) → Shown sql params old new rows → Keeps kept old → rows ≡ selection kept) where
  pub selects : (before : Held S) → Selects g sql params selection before
  selects before = record {
    begins = λ kept was now lent h.
        let it = lent_begin g sql params before now lent schema q text.names was.rows.has text.command h in
        (it.0, means (state g before) (state g now) (lent ++ it.0) kept it.1 was);
    whole = λ kept was now lent all. means (state g before) (state g now) lent kept all was;
  }

abbrev columns : List (List ℕ)
columns = codes "event" ∷ codes "resource" ∷ codes "program" ∷ codes "ven" ∷ codes "ven_name" ∷ codes "resource_name" ∷ codes "body" ∷ []

-- the rows of the table that pass, in the order of its key, cut by the second and the third parameter
abbrev paged : List Term → Query
paged terms = record {
  from = inner shown.tree end;
  filter = terms;
  group = None;
  project = columns_from 0 7;
  distinct = false;
  collations = [];
  order = order_from 0 2;
  limit = col 0 1;
  offset = col 0 2;
}

part-map : {X Y : Type 0} (f : X → Y) (part : Option Page) (xs : List X) → part_of part (map f xs) ≡ map f (part_of part xs)
part-map f None xs = refl
part-map f (Some page) xs = ap (take page.limit) (drop-map f page.skip xs) ∙ take-map f page.limit (drop page.skip xs)

module _ (picked : Picked) (part : Option Page) (terms : List Term) (sql : List ℕ) (text : IsSelectText schema shown (paged terms) end sql)
    (same : (e : ShownEntry) → passes (picked_row picked part) terms (Null ∷ shown_row e) ≡ picks picked e) where
  abbrev passed : Row → Bool
  passed row = passes (picked_row picked part) terms (Null ∷ row)

  found_is : (kept : Kept) → map (cells 0 7) (filter passed (map shown_row kept.shown)) ≡ map shown_row (filter (picks picked) kept.shown)
  found_is kept =
      ap (map (cells 0 7)) (filter-map passed shown_row kept.shown) ∙ map-map (cells 0 7) shown_row (filter (λ e. passed (shown_row e)) kept.shown)
      ∙ ap (λ (p : ShownEntry → Bool). map shown_row (filter p kept.shown)) (λ i e. same e i)

  cut_is : (part : Option Page) (xs : List Row) → Rattle.sqlite_sql.specs.Query.page (paged terms) (picked_row picked part) xs ≡ part_of part xs
  cut_is None xs = refl
  cut_is (Some page) xs = refl

  picked_shown : (old new : State) (rows : List Row) (kept : Kept) → Shown sql (picked_row picked part) old new rows → Keeps kept old → rows ≡ part_rows picked part kept
  picked_shown old new rows kept all was =
      select_runs schema shown_map.rows.at shown shown_keyed.place (paged terms) end sql (picked_row picked part) text refl old new rows (contents_of kept) all was.rows
      ∙ cut_is part _ ∙ ap (part_of part) (ap (λ (show : Row → Row). map show (filter passed (map shown_row kept.shown))) (λ i e. shown_cells 7 0 (picked_row picked part ∷ (Null ∷ e) ∷ []) e refl i) ∙ found_is kept)
      ∙ part-map shown_row part (filter (picks picked) kept.shown)

  picked_by : {S : Type 0} (g : Ghosts S) (before : Held S) → Selects g sql (picked_row picked part) (part_rows picked part) before
  picked_by g before = selects g sql (picked_row picked part) (paged terms) (part_rows picked part) text picked_shown before

-- ---- the texts

pub picked_query : (picked : Picked) → IsQueryText (text_for picked)
unfolding everything
picked_query All = record { read = record { unreturned = λ schema base. refl; untimed = λ schema. refl } }
picked_query (OfVen ven) = record { read = record { unreturned = λ schema base. refl; untimed = λ schema. refl } }
picked_query (OfProgram program) = record { read = record { unreturned = λ schema base. refl; untimed = λ schema. refl } }
picked_query (OfVenName name) = record { read = record { unreturned = λ schema base. refl; untimed = λ schema. refl } }
picked_query (OfResourceName name) = record { read = record { unreturned = λ schema base. refl; untimed = λ schema. refl } }

reads_all : IsSelectText schema shown (paged []) end READ_ALL.now
unfolding understood everything
reads_all = record { names = columns; command = refl; alone = (refl, refl); unlisted = refl; from = refl; order = refl; ungrouped = refl; undistinct = refl; joins = refl; sorts = refl; shows = refl }

reads_of_ven : IsSelectText schema shown (paged (is_text 3)) end READ_OF_VEN.now
unfolding understood everything
reads_of_ven = record { names = columns; command = refl; alone = (refl, refl); unlisted = refl; from = refl; order = refl; ungrouped = refl; undistinct = refl; joins = refl; sorts = refl; shows = refl }

reads_of_program : IsSelectText schema shown (paged (is_text 2)) end READ_OF_PROGRAM.now
unfolding understood everything
reads_of_program = record { names = columns; command = refl; alone = (refl, refl); unlisted = refl; from = refl; order = refl; ungrouped = refl; undistinct = refl; joins = refl; sorts = refl; shows = refl }

reads_of_ven_name : IsSelectText schema shown (paged (is_text 4)) end READ_OF_VEN_NAME.now
unfolding understood everything
reads_of_ven_name = record { names = columns; command = refl; alone = (refl, refl); unlisted = refl; from = refl; order = refl; ungrouped = refl; undistinct = refl; joins = refl; sorts = refl; shows = refl }

reads_of_resource_name : IsSelectText schema shown (paged (is_text 5)) end READ_OF_RESOURCE_NAME.now
unfolding understood everything
reads_of_resource_name = record { names = columns; command = refl; alone = (refl, refl); unlisted = refl; from = refl; order = refl; ungrouped = refl; undistinct = refl; joins = refl; sorts = refl; shows = refl }

-- ---- what they are given

key_bound : (picked : Picked) → bound_value (key_cell picked) ≡ key_cell picked
key_bound All = refl
key_bound (OfVen ven) = refl
key_bound (OfProgram program) = refl
key_bound (OfVenName name) = refl
key_bound (OfResourceName name) = refl

limit_bound : (part : Option Page) → bound_value (limit_cell part) ≡ limit_cell part
limit_bound None = refl
limit_bound (Some page) = refl

skip_bound : (part : Option Page) → bound_value (skip_cell part) ≡ skip_cell part
skip_bound None = refl
skip_bound (Some page) = refl

pub cells_bound : (picked : Picked) (part : Option Page) (key limit skip : Value) → key ≡ key_cell picked → limit ≡ limit_cell part → skip ≡ skip_cell part
    → bound_value key ∷ bound_value limit ∷ bound_value skip ∷ [] ≡ picked_row picked part
cells_bound picked part key limit skip key_is limit_is skip_is =
    ap₂ (λ (v : Value) (row : Row). v ∷ row) (ap bound_value key_is ∙ key_bound picked) (ap₂ (λ (l s : Value). l ∷ s ∷ []) (ap bound_value limit_is ∙ limit_bound part) (ap bound_value skip_is ∙ skip_bound part))

-- ---- what they select

pub picked_selected : {S : Type 0} (g : Ghosts S) (picked : Picked) (part : Option Page) (before : Held S) → Selects g (text_for picked) (picked_row picked part) (part_rows picked part) before
picked_selected g All part before = picked_by All part [] READ_ALL.now reads_all (λ e. refl) g before
picked_selected g (OfVen ven) part before = picked_by (OfVen ven) part (is_text 3) READ_OF_VEN.now reads_of_ven (λ e. number_passes 3 ven e.1.ven (shown_row e) refl) g before
picked_selected g (OfProgram program) part before = picked_by (OfProgram program) part (is_text 2) READ_OF_PROGRAM.now reads_of_program (λ e. text_passes 2 program e.1.program (shown_row e) refl) g before
picked_selected g (OfVenName name) part before = picked_by (OfVenName name) part (is_text 4) READ_OF_VEN_NAME.now reads_of_ven_name (λ e. text_passes 4 name e.1.ven_name (shown_row e) refl) g before
picked_selected g (OfResourceName name) part before =
    picked_by (OfResourceName name) part (is_text 5) READ_OF_RESOURCE_NAME.now reads_of_resource_name (λ e. text_passes 5 name e.1.resource_name (shown_row e) refl) g before
