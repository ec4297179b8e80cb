-- What a query over known tables answers: for each row of the first, in the order of its key, what is found with it in the others. Its tests may ask
-- whether another table has a row. A row that names another by its key finds that one at most.
use Rattle.std.proofs.Common.{◌≡◌, ℕ, zero, suc, min, pos, ◌^◌, ◌-◌, Bool, true, false, not, ◌&&◌, cond, List, [], ◌∷◌, ◌++◌, map, filter, flat_map, length, slice_get, slice_index_or, None, unwrap_or, refl, sym, ap, ap₂, subst, ◌∙◌, Less, IsPermutation, length-append, arith, is_eq, ◌≤◌, Some, append-nil, Ordering, Equal, Greater}
use Rattle.std.proofs.Math.Dec.{leb}
use Rattle.adr_sql.proofs.Common.{ordering_then, AllByRecursion, list_all, and_parts, not-true, length-map, IsPermutation-sym, IsPermutation-trans, length_permutation, Value, Null, Int, Binary, Row, column, rising, ascending, by_key, Trees, IsAscending, map-map, map-flat_map, flat_map-map, all_weaker, IsPermutation-same, IsPermutation-flat_map, IsPermutation-flat_map_each, ascending-append, all_of, all-flat_map, all-map, map_back, unary, binary, is_true, Term, Env, lit, col, op1, op2, case, eval, eval_all, holds, Query, Join, inner, counted, end, matches, Output, output, output_cmp, key_cmp, IsAnswer, page, overlay, output_cmp_total, key_cmp_shift, Table, Schema, State, Shown, understood, reads_listing, IsPlain as IsPlainText, Select, command_of, reads_as, lookup, is_at}
use Rattle.sqlite_value.specs.declared.keys.Key.{Key}
use Rattle.sqlite_keyed.proofs.SortLemmas.{sorted_unique}
use Rattle.adr_sql.specs.Keys.{cells, key_order}
use Rattle.adr_sql.specs.Contents.{Contents, rows_of_table, Holds}
use Rattle.adr_sql.proofs.Keys.{column_drop}
use Rattle.adr_sql.proofs.Places.{by_tree, is_tree, bare, seen, stored_is_seen, by_tree_is, stores_at, IsFound}
use Rattle.std.specs.Option.{option_map_or}

-- ---- terms that read no rowid

-- the slots that hold a row of a table lose its rowid
abbrev pub erased : List Bool → Env → Env
erased [] env = env
erased (k ∷ ks) [] = []
erased (k ∷ ks) (r ∷ env) = cond k (bare r) r ∷ erased ks env

abbrev pub is_rowid : List Bool → ℕ → ℕ → Bool
is_rowid [] slot at = false
is_rowid (k ∷ ks) zero zero = k
is_rowid (k ∷ ks) zero (suc at) = false
is_rowid (k ∷ ks) (suc slot) at = is_rowid ks slot at

abbrev pub blind : List Bool → Term → Bool
blind ks (lit v) = true
blind ks (col slot at) = not (is_rowid ks slot at)
blind ks (op1 op a) = blind ks a
blind ks (op2 op a b) = blind ks a && blind ks b
blind ks (case t a b) = blind ks t && (blind ks a && blind ks b)

col_same : (ks : List Bool) (env : Env) (slot at : ℕ) → is_rowid ks slot at ≡ false → column (slice_index_or env slot []) at ≡ column (slice_index_or (erased ks env) slot []) at
col_same [] env slot at h = refl
col_same (k ∷ ks) [] slot at h = refl
col_same (k ∷ ks) (r ∷ env) zero zero h = rw h refl
col_same (true ∷ ks) (r ∷ env) zero (suc at) h = sym (column_drop r at)
col_same (false ∷ ks) (r ∷ env) zero (suc at) h = refl
col_same (k ∷ ks) (r ∷ env) (suc slot) at h = col_same ks env slot at h

eval_same : (ks : List Bool) (t : Term) (env : Env) → blind ks t ≡ true → eval t env ≡ eval t (erased ks env)
eval_same ks (lit v) env h = refl
eval_same ks (col slot at) env h = col_same ks env slot at (not-true _ h)
eval_same ks (op1 op a) env h = ap (unary op) (eval_same ks a env h)
eval_same ks (op2 op a b) env h = let p = and_parts _ _ h in ap₂ (binary op) (eval_same ks a env p.0) (eval_same ks b env p.1)
eval_same ks (case t a b) env h =
    let p = and_parts _ _ h in
    let q = and_parts _ _ p.1 in
    rw (← eval_same ks t env p.0, ← eval_same ks a env q.0, ← eval_same ks b env q.1) refl

eval_all_same : (ks : List Bool) (ts : List Term) (env : Env) → list_all (blind ks) ts ≡ true → eval_all ts env ≡ eval_all ts (erased ks env)
eval_all_same ks [] env h = refl
eval_all_same ks (t ∷ ts) env h = let p = and_parts _ _ h in ap₂ ◌∷◌ (eval_same ks t env p.0) (eval_all_same ks ts env p.1)

pub holds_same : (ks : List Bool) (ts : List Term) (env : Env) → list_all (blind ks) ts ≡ true → list_all (holds env) ts ≡ list_all (holds (erased ks env)) ts
holds_same ks [] env h = refl
holds_same ks (t ∷ ts) env h = let p = and_parts _ _ h in ap₂ ◌&&◌ (ap is_true (eval_same ks t env p.0)) (holds_same ks ts env p.1)

pub erased_more : (ks : List Bool) (k : Bool) (env : Env) (r : Row) → length ks ≡ length env → erased (ks ++ k ∷ []) (env ++ r ∷ []) ≡ erased ks env ++ cond k (bare r) r ∷ []
erased_more [] k [] r h = refl
erased_more [] k (x ∷ env) r h = absurd (omega arith)
erased_more (j ∷ ks) k [] r h = absurd (omega arith)
erased_more (j ∷ ks) k (x ∷ env) r h = ap (λ l. cond j (bare x) x ∷ l) (erased_more ks k env r (omega arith))

pub longer : {X Y : Type 0} (xs : List X) (ys : List Y) (x : X) (y : Y) → length xs ≡ length ys → length (xs ++ x ∷ []) ≡ length (ys ++ y ∷ [])
longer xs ys x y h = omega (arith, length-append xs (x ∷ []), length-append ys (y ∷ []))

-- ---- inner joins and subqueries of EXISTS and count, over known tables

abbrev pub fair : (ℕ → Bool) → List Bool → List Term → Join → Bool
fair known ks terms end = list_all (blind ks) terms
fair known ks terms (inner t more) = known t && fair known (ks ++ true ∷ []) terms more
fair known ks terms (counted most from test more) = fair known ks test from && fair known (ks ++ false ∷ []) terms more
fair known ks terms _ = false

-- which slots hold a row of a table, in the end
abbrev pub slots : List Bool → Join → List Bool
slots ks (inner t more) = slots (ks ++ true ∷ []) more
slots ks (counted most from test more) = slots (ks ++ false ∷ []) more
slots ks _ = ks

either_way : {X : Type 0} (out : Env → X) (b c : Bool) (x y : Env) → b ≡ c → out x ≡ out y → IsPermutation (map out (cond b (x ∷ []) [])) (map out (cond c (y ∷ []) []))
either_way out b c x y e same =
    rw e (elim c as (λ t. IsPermutation (map out (cond t (x ∷ []) [])) (map out (cond t (y ∷ []) []))) [ true ↦ IsPermutation-same _ _ (ap (λ z. z ∷ []) same) | false ↦ IsPermutation-same _ _ refl ])

module _ (db : Trees) (them : Trees) (known : ℕ → Bool) (same : (t : ℕ) → known t ≡ true → IsPermutation (map bare (db t)) (them t)) where
  -- what a join finds in the stored rows is what it finds in the rows without their rowids
  pub sees : {X : Type 0} (out : Env → X) (from : Join) (ks : List Bool) (terms : List Term) (env : Env) → length ks ≡ length env → fair known ks terms from ≡ true
      → ((e : Env) → out e ≡ out (erased (slots ks from) e)) → IsPermutation (map out (matches db terms from env)) (map out (matches them terms from (erased ks env)))
  sees out end ks terms env len ok shows = either_way out _ _ _ _ (holds_same ks terms env ok) (shows env)
  sees {X} out (inner t more) ks terms env len ok shows =
      let p = and_parts _ _ ok in
      let each : (r : Row) → IsPermutation (map out (matches db terms more (env ++ r ∷ []))) (map out (matches them terms more (erased ks env ++ bare r ∷ []))) = λ r.
      subst (λ e. IsPermutation (map out (matches db terms more (env ++ r ∷ []))) (map out (matches them terms more e))) (erased_more ks true env r len)
      (sees out more (ks ++ true ∷ []) terms (env ++ r ∷ []) (longer ks env true r len) p.1 shows) in
      let over : Row → List X = λ r. map out (matches them terms more (erased ks env ++ r ∷ [])) in
      IsPermutation-trans _ _ _ (IsPermutation-same _ _ (map-flat_map out (λ r. matches db terms more (env ++ r ∷ [])) (db t)))
      (IsPermutation-trans _ _ _ (IsPermutation-flat_map_each _ (λ r. over (bare r)) each (db t))
      (IsPermutation-trans _ _ _ (IsPermutation-same _ _ (sym (flat_map-map over bare (db t))))
      (IsPermutation-trans _ _ _ (IsPermutation-flat_map over _ _ (same t p.0)) (IsPermutation-same _ _ (sym (map-flat_map out (λ r. matches them terms more (erased ks env ++ r ∷ [])) (them t)))))))
  sees out (counted most from test more) ks terms env len ok shows =
      let p = and_parts _ _ ok in
      let few = length_permutation _ _ (sees (λ e. zero) from ks test env len p.0 (λ e. refl)) in
      let many : length (matches db test from env) ≡ length (matches them test from (erased ks env)) = sym (sym (length-map _ _) ∙ few ∙ length-map _ _) in
      let r : Row = Int (pos (min most (length (matches db test from env)))) ∷ [] in
      subst (λ e. IsPermutation (map out (matches db terms more (env ++ r ∷ []))) (map out (matches them terms more e)))
      (erased_more ks false env r len ∙ ap (λ n. erased ks env ++ (Int (pos (min most n)) ∷ []) ∷ []) many)
      (sees out more (ks ++ false ∷ []) terms (env ++ r ∷ []) (longer ks env false r len) p.1 shows)
  sees out _ ks terms env len ok shows = absurd cc

-- ---- the order of the key

-- the columns of slot 1, as what is shown and as an order
abbrev pub columns_from : ℕ → ℕ → List Term
columns_from at zero = []
columns_from at (suc n) = col 1 (suc at) ∷ columns_from (suc at) n

abbrev pub order_from : ℕ → ℕ → List (Term × Key)
order_from at n = map (λ t. (t, ascending Binary)) (columns_from at n)

cells_shift : (n at : ℕ) (v : Value) (e : Row) → cells (suc at) n (v ∷ e) ≡ cells at n e
cells_shift zero at v e = refl
cells_shift (suc n) at v e = ap (λ l. column e at ∷ l) (cells_shift n (suc at) v e)

pub cells_whole : (e : Row) → cells 0 (length e) e ≡ e
cells_whole [] = refl
cells_whole (v ∷ e) = ap (λ l. v ∷ l) (cells_shift (length e) 0 v e ∙ cells_whole e)

pub shown_cells : (n at : ℕ) (env : Env) (e : Row) → slice_index_or env 1 [] ≡ Null ∷ e → eval_all (columns_from at n) env ≡ cells at n e
shown_cells zero at env e h = refl
shown_cells (suc n) at env e h = ap₂ ◌∷◌ (ap (λ r. column r (suc at)) h) (shown_cells n (suc at) env e h)

sort_cells : (n at : ℕ) (env : Env) (e : Row) → slice_index_or env 1 [] ≡ Null ∷ e → eval_all (map (λ (k : Term × Key). k.0) (order_from at n)) env ≡ cells at n e
sort_cells n at env e h = ap (λ ts. eval_all ts env) (map_back (λ t. (t, ascending Binary)) (λ (k : Term × Key). k.0) (λ t. refl) (columns_from at n)) ∙ shown_cells n at env e h

sort_keys : (n at : ℕ) → map (λ (k : Term × Key). k.1) (order_from at n) ≡ rising n []
sort_keys zero at = refl
sort_keys (suc n) at = ap (λ l. ascending Binary ∷ l) (sort_keys n (suc at))

same_order : (n at : ℕ) (a b : Row) → key_cmp 0 (rising n []) (cells at n a) (cells at n b) ≡ key_cmp at (rising n []) a b
same_order zero at a b = refl
same_order (suc n) at a b =
    ap (ordering_then (by_key (ascending Binary) (column a at) (column b at))) (key_cmp_shift (rising n []) 0 (column a at) (column b at) (cells (suc at) n a) (cells (suc at) n b) ∙ same_order n (suc at) a b)

ordered_as : (q : Query) (n : ℕ) → q.order ≡ order_from 0 n → (x y : Output) (a b : Row) → x.0 ≡ cells 0 n a → y.0 ≡ cells 0 n b → output_cmp q x y ≡ key_order n a b
ordered_as q n is x y a b p q' = ap₂ (λ u v. key_cmp 0 (map (λ (k : Term × Key). k.1) q.order) u v) p q' ∙ ap (λ ks. key_cmp 0 ks (cells 0 n a) (cells 0 n b)) (ap (map (λ (k : Term × Key). k.1)) is ∙ sort_keys n 0) ∙ same_order n 0 a b

-- ---- lists

-- lists that rise, one for each of a list that rises, rise one behind another
ascending-flat_map : {A B : Type 0} (R : A → A → Type 0) (S : B → B → Type 0) (Of : A → B → Type 0) (f : A → List B) → ((a : A) → AllByRecursion (Of a) (f a))
    → ((a c : A) (b d : B) → R a c → Of a b → Of c d → S b d) → (xs : List A) → AllByRecursion (λ a. IsAscending S (f a)) xs → IsAscending R xs → IsAscending S (flat_map f xs)
ascending-flat_map R S Of f of step [] ups h = tt
ascending-flat_map R S Of f of step (x ∷ xs) ups h =
    ascending-append S (f x) (flat_map f xs) ups.0 (ascending-flat_map R S Of f of step xs ups.1 h.1)
    (all_weaker (Of x) (λ b. AllByRecursion (S b) (flat_map f xs)) (λ b mine. all-flat_map (S b) f xs (all_weaker (R x) (λ c. AllByRecursion (S b) (f c)) (λ c less. all_weaker (Of c) (S b) (λ d theirs. step x c b d less mine theirs) (f c) (of c)) xs h.0)) (f x) (of x))

-- one at most rises
alone_rises : {A B : Type 0} (S : B → B → Type 0) (f : A → B) (xs : List A) → length xs ≤ 1 → IsAscending S (map f xs)
alone_rises S f [] few = tt
alone_rises S f (x ∷ []) few = (tt, tt)
alone_rises S f (x ∷ y ∷ xs) few = absurd (omega arith)

-- ---- the statement

pub overlay_none : (db : Trees) (t : ℕ) → overlay db [] t ≡ db t
overlay_none db t = elim (leb (2 ^ 31) t) as (λ b. unwrap_or (cond b (slice_get {X = List Row} [] (t - 2 ^ 31)) None) (db t) ≡ db t) [ true ↦ refl | false ↦ refl ]

-- a join only adds slots behind the first two
keeps_slot : (known : ℕ → Bool) (db : Trees) (terms : List Term) (from : Join) (ks : List Bool) (a b : Row) (env : Env) → fair known ks terms from ≡ true → AllByRecursion (λ e. slice_index_or e 1 [] ≡ b) (matches db terms from (a ∷ b ∷ env))
keeps_slot known db terms end ks a b env ok = elim (list_all (holds (a ∷ b ∷ env)) terms) as (λ t. AllByRecursion (λ e. slice_index_or e 1 [] ≡ b) (cond t ((a ∷ b ∷ env) ∷ []) [])) [ true ↦ (refl, tt) | false ↦ tt ]
keeps_slot known db terms (inner t more) ks a b env ok =
    let p = and_parts (known t) (fair known (ks ++ true ∷ []) terms more) ok in
    all-flat_map (λ e. slice_index_or e 1 [] ≡ b) (λ r. matches db terms more (a ∷ b ∷ (env ++ r ∷ []))) (db t)
    (all_of (λ r. AllByRecursion (λ e. slice_index_or e 1 [] ≡ b) (matches db terms more (a ∷ b ∷ (env ++ r ∷ [])))) (λ r. keeps_slot known db terms more (ks ++ true ∷ []) a b (env ++ r ∷ []) p.1) (db t))
keeps_slot known db terms (counted most from test more) ks a b env ok =
    keeps_slot known db terms more (ks ++ false ∷ []) a b _ (and_parts (fair known ks test from) (fair known (ks ++ false ∷ []) terms more) ok).1
keeps_slot known db terms _ ks a b env ok = absurd cc

-- what `refl` finds of the text of a query over known tables, which shows the rows of the first in the order of its key and reads no rowid
pub record IsSelectText (schema : Schema) (table : Table) (q : Query) (rest : Join) (sql : List ℕ) : Type 0 where
  pub names : List (List ℕ)
  pub command : command_of (understood schema sql) ≡ Select (record { lets = []; body = q }) names
  pub alone : IsPlainText (understood schema sql)
  pub unlisted : reads_listing schema sql ≡ false
  pub from : q.from ≡ inner table.tree rest
  pub order : q.order ≡ order_from 0 (length table.primary)
  pub ungrouped : q.group ≡ None
  pub undistinct : q.distinct ≡ false
  pub joins : fair (is_tree schema.tables) (false ∷ []) q.filter q.from ≡ true
  pub sorts : list_all (blind (slots (false ∷ []) q.from)) (map (λ (k : Term × Key). k.0) q.order) ≡ true
  pub shows : list_all (blind (slots (false ∷ []) q.from)) q.project ≡ true

module _ (schema : Schema) (at : ℕ) (table : Table) (it : IsFound schema at table) (q : Query) (rest : Join) (sql : List ℕ) (params : Row) (text : IsSelectText schema table q rest sql) where
  -- what the query finds in the contents of the tables
  abbrev found_in : Contents → List Output
  found_in all = map (output q) (matches (seen schema.tables all) q.filter q.from (params ∷ []))

  -- that is its answer, where it is found in the order of the query
  query_runs : (old new : State) (rows : List Row) (all : Contents) → Shown sql params old new rows → Holds schema all old
      → IsAscending (λ x y. output_cmp q x y ≡ Less) (found_in all) → rows ≡ page q params (map (λ (o : Output). o.1) (found_in all))
  query_runs old new rows all h was up =
      let db = old.now.trees in
      let read = reads_as sql params old new schema was.has _ text.command text.alone text.unlisted rows h in
      let a : IsAnswer q (overlay db []) params rows = read.answer Null in
      let over : overlay db [] ≡ db = λ i t. overlay_none db t i in
      let kept : a.kept ≡ map (output q) (matches db q.filter q.from (params ∷ [])) =
      subst (λ b. Rattle.sqlite_sql.specs.Query.IsKept b q.collations (map (output q) a.staged) a.kept) text.undistinct a.distinct
      ∙ ap (map (output q)) (subst (λ g. Rattle.sqlite_sql.specs.Group.IsGrouped g params (matches (overlay db []) q.filter q.from (params ∷ [])) a.staged) text.ungrouped a.grouped ∙ ap (λ (d : Trees). matches d q.filter q.from (params ∷ [])) over) in
      let known : (t : ℕ) → is_tree schema.tables t ≡ true → IsPermutation (map bare (db t)) (seen schema.tables all t) = λ t is. stored_is_seen schema.tables db all t was.each is in
      let blind_out : (e : Env) → output q e ≡ output q (erased (slots (false ∷ []) q.from) e) = λ e. ap₂ (λ (x y : Row). (x, y)) (eval_all_same _ _ e text.sorts) (eval_all_same _ _ e text.shows) in
      let there = sees db (seen schema.tables all) (is_tree schema.tables) known (output q) q.from (false ∷ []) q.filter (params ∷ []) refl text.joins blind_out in
      let all_same : IsPermutation (found_in all) a.ordered = IsPermutation-trans _ _ _ (IsPermutation-sym _ _ there) (subst (λ l. IsPermutation l a.ordered) kept a.same) in
      a.shown ∙ ap (λ os. page q params (map (λ (o : Output). o.1) os)) (sorted_unique (output_cmp q) (output_cmp_total q) _ _ up all_same a.sorted)

  -- what is found with a row of the table
  abbrev pub with_row : Contents → Row → List Env
  with_row all a = matches (seen schema.tables all) q.filter rest (params ∷ (Null ∷ a) ∷ [])

  abbrev outputs : Contents → Row → List Output
  outputs all a = map (output q) (with_row all a)

  found_is : (all : Contents) → found_in all ≡ flat_map (outputs all) (rows_of_table all at)
  found_is all =
      let them = seen schema.tables all in
      ap (λ j. map (output q) (matches them q.filter j (params ∷ []))) text.from
      ∙ map-flat_map (output q) (λ r. matches them q.filter rest (params ∷ r ∷ [])) (them table.tree)
      ∙ flat_map-map (λ r. map (output q) (matches them q.filter rest (params ∷ r ∷ []))) (λ a. Null ∷ a) (by_tree schema.tables all table.tree)
      ∙ ap (flat_map (outputs all)) (by_tree_is schema.tables at table all it.found it.alone)

  found_rises : (all : Contents) → IsAscending (λ a b. key_order (length table.primary) a b ≡ Less) (rows_of_table all at) → AllByRecursion (λ a. length (with_row all a) ≤ 1) (rows_of_table all at)
      → IsAscending (λ x y. output_cmp q x y ≡ Less) (found_in all)
  found_rises all rises few =
      let n = length table.primary in
      let Of : Row → Output → Type 0 = λ a o. o.0 ≡ cells 0 n a in
      let joins : fair (is_tree schema.tables) (false ∷ true ∷ []) q.filter rest ≡ true =
      (and_parts (is_tree schema.tables table.tree) _ (subst (λ j. fair (is_tree schema.tables) (false ∷ []) q.filter j ≡ true) text.from text.joins)).1 in
      let keyed : (a : Row) (env : Env) → slice_index_or env 1 [] ≡ Null ∷ a → Of a (output q env) = λ a env is. ap (λ o. eval_all (map (λ (k : Term × Key). k.0) o) env) text.order ∙ sort_cells n 0 env a is in
      let of : (a : Row) → AllByRecursion (Of a) (outputs all a) = λ a.
      all-map (Of a) (output q) (with_row all a) (all_weaker _ (λ env. Of a (output q env)) (keyed a) (with_row all a) (keeps_slot (is_tree schema.tables) (seen schema.tables all) q.filter rest (false ∷ true ∷ []) params (Null ∷ a) [] joins)) in
      subst (IsAscending (λ (x y : Output). output_cmp q x y ≡ Less)) (sym (found_is all))
      (ascending-flat_map (λ a b. key_order n a b ≡ Less) (λ (x y : Output). output_cmp q x y ≡ Less) Of (outputs all) of (λ a c x y less mine theirs. ordered_as q n text.order x y a c mine theirs ∙ less) (rows_of_table all at)
      (all_weaker _ (λ a. IsAscending (λ (x y : Output). output_cmp q x y ≡ Less) (outputs all a)) (λ a one. alone_rises (λ (x y : Output). output_cmp q x y ≡ Less) (output q) (with_row all a) one) (rows_of_table all at) few) rises)

  -- the answer: row by row, in order, what is found with it, where that is one at most
  pub join_runs : (old new : State) (rows : List Row) (all : Contents) → Shown sql params old new rows → Holds schema all old → AllByRecursion (λ a. length (with_row all a) ≤ 1) (rows_of_table all at)
      → rows ≡ page q params (flat_map (λ a. map (eval_all q.project) (with_row all a)) (rows_of_table all at))
  join_runs old new rows all h was few =
      let held = stores_at schema.tables at table old.now.trees all it.found was.each in
      query_runs old new rows all h was (found_rises all held.rising few)
      ∙ ap (page q params) (ap (map (λ (o : Output). o.1)) (found_is all) ∙ map-flat_map (λ (o : Output). o.1) (outputs all) (rows_of_table all at)
      ∙ ap (λ (f : Row → List Row). flat_map f (rows_of_table all at)) (λ i a. map-map (λ (o : Output). o.1) (output q) (with_row all a) i))

-- ---- the row that a key names

module _ {K V X : Type 0} (R : K → K → Ordering) (same : (j k : K) → R k j ≡ Equal → k ≡ j) (f : K × V → List X) where
  none_named : (k : K) (es : List (K × V)) → AllByRecursion (λ e. R k e.0 ≡ Less) es → flat_map (λ e. cond (is_eq (R k e.0)) (f e) []) es ≡ []
  none_named k [] above = refl
  none_named k (e ∷ es) above = rw above.0 (none_named k es above.1)

  -- of the entries of a map a key finds its own, or none
  pub named_is : (k : K) (es : List (K × V)) → IsAscending (λ a b. R a.0 b.0 ≡ Less) es → flat_map (λ e. cond (is_eq (R k e.0)) (f e) []) es ≡ option_map_or (λ v. f (k, v)) (lookup (is_at (R k)) es) []
  named_is k [] up = refl
  named_is k (e ∷ es) up = by (R k e.0) refl (named_is k es up.1)
    where
      by : (o : Ordering) → R k e.0 ≡ o → flat_map (λ e. cond (is_eq (R k e.0)) (f e) []) es ≡ option_map_or (λ v. f (k, v)) (lookup (is_at (R k)) es) []
          → cond (is_eq o) (f e) [] ++ flat_map (λ e. cond (is_eq (R k e.0)) (f e) []) es ≡ option_map_or (λ v. f (k, v)) (cond (is_eq o) (Some e.1) (lookup (is_at (R k)) es)) []
      by Less is more = more
      by Greater is more = more
      by Equal is more =
          let key = same e.0 k is in
          ap (λ l. f e ++ l) (none_named k es (subst (λ j. AllByRecursion (λ x. R j x.0 ≡ Less) es) (sym key) up.0)) ∙ append-nil (f e) ∙ ap (λ j. f (j, e.1)) (sym key)
