-- What a query over one table answers: the rows that pass, in the order of the key. Its tests may ask whether another table has a row.
use Rattle.std.proofs.Common.{◌≡◌, ℕ, zero, suc, min, pos, negsuc, ◌-◌, Bool, true, false, not, ◌&&◌, cond, List, [], ◌∷◌, ◌++◌, map, drop, filter, flat_map, length, slice_index_or, None, refl, sym, ap, ap₂, subst, ◌∙◌, IsPermutation, arith, is_eq, ◌≤◌, ◌==◌}
use Rattle.adr_sql.proofs.Common.{AllByRecursion, list_all, list_any, and_parts, not-true, ne_eqb, length-map, Null, Int, Binary, Row, column, value_cmp, rising, Trees, map-map, map-flat_map, flat_map-map, all-filter, all_weaker, all_of, unary, is_true, Compare, Eq, Term, Env, lit, col, op2, eval, eval_all, holds, Query, Join, inner, counted, end, matches, Output, output, key_cmp, IsAnswer, IsSureAnswer, page, overlay, Table, Schema, equal, State, Shown, none_counted}
use Rattle.sqlite_value.specs.declared.keys.Key.{Key}
use Rattle.sqlite_sql.specs.declared.ops.UnaryOp.TheVariants.{Not}
use Rattle.adr_sql.specs.Keys.{cells, has_key, rows_at}
use Rattle.adr_sql.specs.Contents.{Contents, rows_of_table, Holds}
use Rattle.adr_sql.proofs.Keys.{then_eq, equal_is, column_drop, are_full}
use Rattle.adr_sql.proofs.Places.{by_tree, seen, stores_at, IsFound}
use Rattle.adr_sql.proofs.Joins.{columns_from, order_from, shown_cells, cells_whole, IsSelectText, with_row, join_runs, overlay_none}

-- ---- one table, and what its tests count of others

-- the row and the counts of its subqueries
abbrev pub grown : Trees → Join → Env → Env
grown db (counted most from test more) env = grown db more (env ++ (Int (pos (min most (length (matches db test from env)))) ∷ []) ∷ [])
grown db _ env = env

abbrev pub is_flat : Join → Bool
is_flat end = true
is_flat (counted most from test more) = is_flat more
is_flat _ = false

pub flat_one : (db : Trees) (terms : List Term) (rest : Join) (env : Env) → is_flat rest ≡ true → matches db terms rest env ≡ cond (list_all (holds (grown db rest env)) terms) (grown db rest env ∷ []) []
flat_one db terms end env ok = refl
flat_one db terms (counted most from test more) env ok = flat_one db terms more _ ok
flat_one db terms _ env ok = absurd cc

pub slot_kept : (db : Trees) (rest : Join) (a b : Row) (env : Env) → slice_index_or (grown db rest (a ∷ b ∷ env)) 1 [] ≡ b
slot_kept db (counted most from test more) a b env = slot_kept db more a b _
slot_kept db _ a b env = refl

pub picked : {A B : Type 0} (p : A → Bool) (f : A → B) (xs : List A) → flat_map (λ r. cond (p r) (f r ∷ []) []) xs ≡ map f (filter p xs)
picked p f [] = refl
picked p f (x ∷ xs) = elim (p x) as (λ b. cond b (f x ∷ []) [] ++ flat_map (λ r. cond (p r) (f r ∷ []) []) xs ≡ map f (cond b (x ∷ filter p xs) (filter p xs))) [ true ↦ ap (λ l. f x ∷ l) (picked p f xs) | false ↦ picked p f xs ]

-- ---- what it answers in no order

-- a query over a table, whose tests may count in others
abbrev pub selection : ℕ → Join → List Term → List Term → List (Term × Key) → Query
selection tree rest terms project order = record {
  from = inner tree rest;
  filter = terms;
  group = None;
  project = project;
  distinct = false;
  collations = [];
  order = order;
  limit = lit (Int (negsuc 0));
  offset = lit (Int (pos 0));
}

-- the test of WHERE at a row, in some trees
abbrev pub is_found : Trees → Join → List Term → Row → Row → Bool
is_found db rest terms params r = list_all (holds (grown db rest (params ∷ r ∷ []))) terms

pub record IsAnsweredBy (db : Trees) (rest : Join) (q : Query) (found : List Row) (params : Row) (rows : List Row) : Type 0 where
  pub ordered : List Output
  pub same : IsPermutation (map (λ r. output q (grown db rest (params ∷ r ∷ []))) found) ordered
  pub shows : rows ≡ map (λ (o : Output). o.1) ordered

module _ (db : Trees) (tree : ℕ) (rest : Join) (terms : List Term) (params : Row) (flat : is_flat rest ≡ true) where
  pub matched : matches (overlay db []) terms (inner tree rest) (params ∷ []) ≡ map (λ r. grown db rest (params ∷ r ∷ [])) (filter (is_found db rest terms params) (db tree))
  matched =
      ap (λ (d : Trees). matches d terms (inner tree rest) (params ∷ [])) (λ i t. overlay_none db t i) ∙ ap (λ (f : Row → List Env). flat_map f (db tree)) (λ i r. flat_one db terms rest (params ∷ r ∷ []) flat i)
      ∙ picked (is_found db rest terms params) (λ r. grown db rest (params ∷ r ∷ [])) (db tree)

  pub answered : (project : List Term) (rows : List Row) → IsSureAnswer (selection tree rest terms project []) (overlay db []) params rows
      → IsAnsweredBy db rest (selection tree rest terms project []) (filter (is_found db rest terms params) (db tree)) params rows
  answered project rows sure =
      let q = selection tree rest terms project [] in
      let a : IsAnswer q (overlay db []) params rows = sure Null in
      let kept : a.kept ≡ map (λ r. output q (grown db rest (params ∷ r ∷ []))) (filter (is_found db rest terms params) (db tree)) =
      a.distinct ∙ ap (map (output q)) (a.grouped ∙ matched) ∙ map-map (output q) (λ r. grown db rest (params ∷ r ∷ [])) _ in
      record { ordered = a.ordered; same = subst (λ l. IsPermutation l a.ordered) kept a.same; shows = a.shown }

-- ---- what it answers in the order of the key

one_at_most : (b : Bool) (e : Env) → length (cond b (e ∷ []) []) ≤ 1
one_at_most true e = omega arith
one_at_most false e = omega arith

module _ (schema : Schema) (at : ℕ) (table : Table) (it : IsFound schema at table) (q : Query) (rest : Join) (sql : List ℕ) (params : Row) (text : IsSelectText schema table q rest sql) (flat : is_flat rest ≡ true) where
  -- the slots at a row, and whether it passes
  abbrev scope : Contents → Row → Env
  scope all e = grown (seen schema.tables all) rest (params ∷ (Null ∷ e) ∷ [])

  abbrev is_match : Contents → Row → Bool
  is_match all e = is_found (seen schema.tables all) rest q.filter params (Null ∷ e)

  -- a row that passes is found alone
  found_with : (all : Contents) (e : Row) → with_row schema at table it q rest sql params text all e ≡ cond (is_match all e) (scope all e ∷ []) []
  found_with all e = flat_one (seen schema.tables all) q.filter rest (params ∷ (Null ∷ e) ∷ []) flat

  -- the answer: the rows that pass, in order, as the query shows them
  pub select_runs : (old new : State) (rows : List Row) (all : Contents) → Shown sql params old new rows → Holds schema all old
      → rows ≡ page q params (map (λ e. eval_all q.project (scope all e)) (filter (is_match all) (rows_of_table all at)))
  select_runs old new rows all h was =
      let few : (e : Row) → length (with_row schema at table it q rest sql params text all e) ≤ 1 = λ e. subst (λ (l : List Env). length l ≤ 1) (sym (found_with all e)) (one_at_most (is_match all e) (scope all e)) in
      join_runs schema at table it q rest sql params text old new rows all h was (all_of _ few (rows_of_table all at))
      ∙ ap (page q params) (ap (λ (f : Row → List Env). flat_map (λ e. map (eval_all q.project) (f e)) (rows_of_table all at)) (λ i e. found_with all e i)
      ∙ sym (map-flat_map (eval_all q.project) (λ e. cond (is_match all e) (scope all e ∷ []) []) (rows_of_table all at))
      ∙ ap (map (eval_all q.project)) (picked (is_match all) (scope all) (rows_of_table all at)) ∙ map-map (eval_all q.project) (scope all) _)

-- ---- whole rows by a leading part of the key

-- `=` of k columns, from one on, in two slots
abbrev pub equals_from : (ℕ → Term) → (ℕ → Term) → ℕ → ℕ → List Term
equals_from a b at zero = []
equals_from a b at (suc k) = op2 (Compare Eq Binary) (a at) (b at) ∷ equals_from a b (suc at) k

-- the first k columns of slot 1 are the parameters
abbrev pub equalities : ℕ → ℕ → List Term
equalities = equals_from (λ at. col 1 (suc at)) (λ at. col 0 at)

-- those of slot 2 are those of slot 1
abbrev pub pairs_from : ℕ → ℕ → List Term
pairs_from = equals_from (λ at. col 2 (suc at)) (λ at. col 1 (suc at))

equals_are : (a b : ℕ → Term) (env : Env) (key row : Row) → ((at : ℕ) → eval (a at) env ≡ column row at) → ((at : ℕ) → eval (b at) env ≡ column key at) → (k at : ℕ) → are_full at k key ≡ true
    → list_all (holds env) (equals_from a b at k) ≡ is_eq (key_cmp at (rising k []) key row)
equals_are a b env key row left right zero at full = refl
equals_are a b env key row left right (suc k) at full =
    let parts = and_parts _ _ full in
    let here : equal Binary (eval (a at) env) (eval (b at) env) ≡ is_eq (value_cmp (column key at) (column row at)) = ap₂ (equal Binary) (left at) (right at) ∙ equal_is (column row at) (column key at) (not-true _ parts.0) in
    ap₂ ◌&&◌ here (equals_are a b env key row left right k (suc at) parts.1) ∙ sym (then_eq _ _)

abbrev pub passes : Row → List Term → Row → Bool
passes params terms r = list_all (holds (params ∷ r ∷ [])) terms

pub passes_is : (k : ℕ) (params r : Row) → are_full 0 k params ≡ true → passes params (equalities 0 k) r ≡ has_key k params (drop 1 r)
passes_is k params r full = equals_are (λ at. col 1 (suc at)) (λ at. col 0 at) (params ∷ r ∷ []) params (drop 1 r) (λ at. sym (column_drop r at)) (λ at. refl) k 0 full

-- the first columns of the rows that pass tests, in the order of the key
abbrev pub first_columns : ℕ → List Term → Table → Query
first_columns m terms table = selection table.tree end terms (columns_from 0 m) (order_from 0 (length table.primary))

abbrev pub whole_rows : ℕ → Table → Query
whole_rows k table = first_columns (length table.columns) (equalities 0 k) table

map_kept : (f : Row → Row) (rows : List Row) → AllByRecursion (λ e. f e ≡ e) rows → map f rows ≡ rows
map_kept f [] h = refl
map_kept f (e ∷ rows) h = ap₂ ◌∷◌ h.0 (map_kept f rows h.1)

module _ (schema : Schema) (at m : ℕ) (terms : List Term) (table : Table) (it : IsFound schema at table) (sql : List ℕ) (params : Row) (text : IsSelectText schema table (first_columns m terms table) end sql) where
  pub first_runs : (old new : State) (rows : List Row) (all : Contents) → Shown sql params old new rows → Holds schema all old
      → rows ≡ map (cells 0 m) (filter (λ e. passes params terms (Null ∷ e)) (rows_of_table all at))
  first_runs old new rows all h was =
      select_runs schema at table it (first_columns m terms table) end sql params text refl old new rows all h was
      ∙ ap (λ (show : Row → Row). map show (filter (λ e. passes params terms (Null ∷ e)) (rows_of_table all at))) (λ i e. shown_cells m 0 (params ∷ (Null ∷ e) ∷ []) e refl i)

module _ (schema : Schema) (at k : ℕ) (table : Table) (it : IsFound schema at table) (sql : List ℕ) (params : Row) (text : IsSelectText schema table (whole_rows k table) end sql) (full : are_full 0 k params ≡ true) where
  pub read_runs : (old new : State) (rows : List Row) (all : Contents) → Shown sql params old new rows → Holds schema all old → rows ≡ rows_at k params (rows_of_table all at)
  read_runs old new rows all h was =
      let held = stores_at schema.tables at table old.now.trees all it.found was.each in
      let width = length table.columns in
      let whole : (e : Row) → length e ≡ width → cells 0 width e ≡ e = λ e wide. ap (λ w. cells 0 w e) (sym wide) ∙ cells_whole e in
      first_runs schema at width (equalities 0 k) table it sql params text old new rows all h was
      ∙ ap (λ (p : Row → Bool). map (cells 0 width) (filter p (rows_of_table all at))) (λ i e. passes_is k params (Null ∷ e) full i)
      ∙ map_kept (cells 0 width) _ (all_weaker _ (λ e. cells 0 width e ≡ e) whole _ (all-filter _ (has_key k params) (rows_of_table all at) held.whole))

-- ---- rows that another table lacks

is_none : (n : ℕ) → is_true (unary Not (Int (pos (min 1 n)))) ≡ (n == 0)
unfolding unary
is_none zero = refl
is_none (suc n) =
    let one : min 1 (suc n) ≡ 1 = omega arith in
    ap (λ m. is_true (unary Not (Int (pos m)))) one ∙ sym (ne_eqb (suc n) 0 (λ same. omega arith))

-- NOT EXISTS (SELECT .. FROM a table WHERE tests)
pub absent_is : (ts : List Table) (all : Contents) (tests : List Term) (tree : ℕ) (env : Env)
    → is_true (unary Not (Int (pos (min 1 (length (matches (seen ts all) tests (inner tree end) env)))))) ≡ not (list_any (λ e. list_all (holds (env ++ (Null ∷ e) ∷ [])) tests) (by_tree ts all tree))
absent_is ts all tests tree env =
    let p : Row → Bool = λ e. list_all (holds (env ++ (Null ∷ e) ∷ [])) tests in
    let them : matches (seen ts all) tests (inner tree end) env ≡ map (λ e. env ++ (Null ∷ e) ∷ []) (filter p (by_tree ts all tree)) =
    flat_map-map (λ r. matches (seen ts all) tests end (env ++ r ∷ [])) (λ e. Null ∷ e) (by_tree ts all tree) ∙ picked p (λ e. env ++ (Null ∷ e) ∷ []) (by_tree ts all tree) in
    is_none _ ∙ ap (λ n. n == 0) (ap length them ∙ length-map _ _) ∙ none_counted p (by_tree ts all tree)

-- NOT EXISTS of a row with the same first k columns
pub absent_key : (ts : List Table) (all : Contents) (k tree : ℕ) (params m : Row) → are_full 0 k m ≡ true
    → is_true (unary Not (Int (pos (min 1 (length (matches (seen ts all) (pairs_from 0 k) (inner tree end) (params ∷ (Null ∷ m) ∷ []))))))) ≡ not (list_any (has_key k m) (by_tree ts all tree))
absent_key ts all k tree params m full = absent_is ts all (pairs_from 0 k) tree (params ∷ (Null ∷ m) ∷ []) ∙ ap (λ (p : Row → Bool). not (list_any p (by_tree ts all tree))) (λ i e.
    equals_are (λ at. col 2 (suc at)) (λ at. col 1 (suc at)) (params ∷ (Null ∷ m) ∷ (Null ∷ e) ∷ []) m e (λ at. refl) (λ at. refl) k 0 full i)
