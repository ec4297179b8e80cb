-- One table among the others.
use Rattle.std.proofs.Common.{◌≡◌, ◌≢◌, ℕ, zero, suc, Bool, true, false, not, ◌&&◌, ◌||◌, ◌==◌, cond, List, [], ◌∷◌, map, drop, length, slice_get, Some, refl, sym, ap, subst, ◌∙◌, eqb-true, IsPermutation}
use Rattle.adr_sql.proofs.Common.{AllByRecursion, list_all, list_any, and_parts, both_ways, eq-eqb, not-true, IsPermutation-refl, IsPermutation-sym, IsPermutation-map, IsPermutation-trans, Null, Row, Trees, map-map, all_both, IsPermutation-same, all_from_test, Table, Schema}
use Rattle.adr_sql.specs.Contents.{Contents, rows_of_table, with_table, Stores, StoresEach}

-- the other tables are as they were
abbrev pub LeavesOthers : List Table → ℕ → Trees → Trees → Type 0
LeavesOthers tables tree old new = AllByRecursion (λ t. t.tree ≢ tree → new t.tree ≡ old t.tree) tables

-- only the table at this place has the tree
abbrev pub is_alone : List Table → ℕ → ℕ → Bool
is_alone [] at tree = true
is_alone (t ∷ ts) zero tree = list_all (λ u. not (u.tree == tree)) ts
is_alone (t ∷ ts) (suc at) tree = not (t.tree == tree) && is_alone ts at tree

-- what `refl` finds of a table of a schema that is written out
pub record IsFound (schema : Schema) (at : ℕ) (table : Table) : Type 0 where
  pub found : slice_get schema.tables at ≡ Some table
  pub alone : is_alone schema.tables at table.tree ≡ true

other_tree : (a b : ℕ) → not (a == b) ≡ true → a ≢ b
other_tree a b h same = absurd (both_ways _ (not-true _ h) (eq-eqb a b same))

pub stores_same : (ts : List Table) (old new : Trees) (all : Contents) → AllByRecursion (λ t. new t.tree ≡ old t.tree) ts → StoresEach ts old all → StoresEach ts new all
stores_same [] old new [] same h = tt
stores_same [] old new (r ∷ all) same h = h
stores_same (t ∷ ts) old new [] same h = h
stores_same (t ∷ ts) old new (r ∷ all) same h = (subst (λ stored. Stores (length t.primary) (length t.columns) stored r) (sym same.0) h.0, stores_same ts old new all same.1 h.1)

others_stay : (ts : List Table) (tree : ℕ) (old new : Trees) (all : Contents) → list_all (λ u. not (u.tree == tree)) ts ≡ true → LeavesOthers ts tree old new → StoresEach ts old all → StoresEach ts new all
others_stay ts tree old new all apart others =
    stores_same ts old new all (all_both (λ u. not (u.tree == tree) ≡ true) (λ u. u.tree ≢ tree → new u.tree ≡ old u.tree) (λ u. new u.tree ≡ old u.tree) (λ u far same. same (other_tree u.tree tree far)) ts (all_from_test (λ u. not (u.tree == tree)) ts apart) others)

-- a write to one table leaves the others as they were
pub stores_with_table : (ts : List Table) (at : ℕ) (table : Table) (old new : Trees) (all : Contents) (rows : List Row) → slice_get ts at ≡ Some table → is_alone ts at table.tree ≡ true
    → LeavesOthers ts table.tree old new → Stores (length table.primary) (length table.columns) (new table.tree) rows → StoresEach ts old all → StoresEach ts new (with_table all at rows)
stores_with_table [] at table old new all rows found alone others here h = absurd cc
stores_with_table (t ∷ ts) at table old new [] rows found alone others here h = absurd h
stores_with_table (t ∷ ts) zero table old new (first ∷ all) rows found alone others here h =
    let same : t ≡ table = cc in
    (subst (λ (x : Table). Stores (length x.primary) (length x.columns) (new x.tree) rows) (sym same) here, others_stay ts table.tree old new all alone others.1 h.1)
stores_with_table (t ∷ ts) (suc at) table old new (first ∷ all) rows found alone others here h =
    let p = and_parts _ _ alone in
    (subst (λ stored. Stores (length t.primary) (length t.columns) stored first) (sym (others.0 (other_tree t.tree table.tree p.0))) h.0, stores_with_table ts at table old new all rows found p.1 others.1 here h.1)

-- the table at a place stores its rows
pub stores_at : (ts : List Table) (at : ℕ) (table : Table) (trees : Trees) (all : Contents) → slice_get ts at ≡ Some table → StoresEach ts trees all
    → Stores (length table.primary) (length table.columns) (trees table.tree) (rows_of_table all at)
stores_at [] at table trees all found h = absurd cc
stores_at (t ∷ ts) at table trees [] found h = absurd h
stores_at (t ∷ ts) zero table trees (rows ∷ all) found h =
    let same : t ≡ table = cc in
    subst (λ (x : Table). Stores (length x.primary) (length x.columns) (trees x.tree) rows) same h.0
stores_at (t ∷ ts) (suc at) table trees (rows ∷ all) found h = stores_at ts at table trees all found h.1

-- ---- by tree, as a query finds a table

-- the rows of the table with a tree
abbrev pub by_tree : List Table → Contents → ℕ → List Row
by_tree [] all tree = []
by_tree (t ∷ ts) [] tree = []
by_tree (t ∷ ts) (rows ∷ all) tree = cond (t.tree == tree) rows (by_tree ts all tree)

abbrev pub is_tree : List Table → ℕ → Bool
is_tree ts tree = list_any (λ t. t.tree == tree) ts

-- a stored row without its rowid, and the rows of a table as if each had none
abbrev pub bare : Row → Row
bare r = Null ∷ drop 1 r

abbrev pub seen : List Table → Contents → Trees
seen ts all tree = map (λ row. Null ∷ row) (by_tree ts all tree)

pub stored_is_seen : (ts : List Table) (trees : Trees) (all : Contents) (tree : ℕ) → StoresEach ts trees all → is_tree ts tree ≡ true → IsPermutation (map bare (trees tree)) (seen ts all tree)
stored_is_seen [] trees all tree h is = absurd cc
stored_is_seen (t ∷ ts) trees [] tree h is = absurd h
stored_is_seen (t ∷ ts) trees (rows ∷ all) tree h is = go (t.tree == tree) refl is (stored_is_seen ts trees all tree h.1)
  where
    go : (b : Bool) → (t.tree == tree) ≡ b → (b || is_tree ts tree) ≡ true → (is_tree ts tree ≡ true → IsPermutation (map bare (trees tree)) (seen ts all tree)) → IsPermutation (map bare (trees tree)) (map (λ row. Null ∷ row) (cond b rows (by_tree ts all tree)))
    go true same is more =
        let held = subst (λ n. IsPermutation rows (map (drop 1) (trees n))) (eqb-true _ _ same) h.0.same in
        IsPermutation-trans _ _ _ (IsPermutation-same _ _ (sym (map-map (λ (e : Row). Null ∷ e) (drop 1) (trees tree)))) (IsPermutation-map (λ (e : Row). Null ∷ e) _ _ (IsPermutation-sym _ _ held))
    go false other is more = more is

-- the tree finds the table at its place
pub by_tree_is : (ts : List Table) (at : ℕ) (table : Table) (all : Contents) → slice_get ts at ≡ Some table → is_alone ts at table.tree ≡ true → by_tree ts all table.tree ≡ rows_of_table all at
by_tree_is [] at table all found alone = absurd cc
by_tree_is (t ∷ ts) at table [] found alone = refl
by_tree_is (t ∷ ts) zero table (rows ∷ all) found alone =
    let same : t ≡ table = cc in
    ap (λ b. cond b rows (by_tree ts all table.tree)) (eq-eqb t.tree table.tree (ap (λ (x : Table). x.tree) same))
by_tree_is (t ∷ ts) (suc at) table (rows ∷ all) found alone =
    let p = and_parts _ _ alone in
    ap (λ b. cond b rows (by_tree ts all table.tree)) (not-true _ p.0) ∙ by_tree_is ts at table all found p.1

-- ---- empty tables

pub stores_none : (n width : ℕ) (stored : List Row) → stored ≡ [] → Stores n width stored []
stores_none n width stored is = rw is (record { rising = tt; whole = tt; same = IsPermutation-refl []; listed = tt; numbered = tt })
