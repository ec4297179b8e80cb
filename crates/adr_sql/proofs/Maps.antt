-- A table that stands for a map: to put, to remove and to read by key are the map's own words.
use Rattle.std.proofs.Common.{inl, inr, Option, None, suc, fold, ◌≡◌, ℕ, ℤ, Bool, true, false, not, cond, List, [], ◌∷◌, map, Some, refl, sym, ap, ap₂, subst, ◌∙◌, Ordering, Less, Equal, Greater, is_eq}
use Rattle.std.specs.Prelude.{bytes_eq}
use Rattle.adr_sql.proofs.Common.{ordering_reverse, ordering_then, match_ordering, int_cmp, nat_cmp, AllByRecursion, insert_entry, is_at, remove_entry, lookup, Null, Int, Text, Row, column, Binary, value_cmp-Int, value_cmp-Text, IsAscending, filter_all, filter_none, all_weaker, map_back, Compare, Eq, Term, col, op2, equal, Has, has_kept}
use Rattle.std.specs.Cmp.Lexicographic.{slice_cmp}
use Rattle.std.specs.BTreeSet.{insert_key}
use Rattle.std.proofs.lemmas.Map.Text.{is_eq-slice_cmp}
use Rattle.std.proofs.lemmas.Slice.Eq.{bytes_eq-Decides}
use Rattle.adr_sql.specs.Keys.{key_order, has_key, with_row, rows_at, rows_without}
use Rattle.adr_sql.specs.Codecs.{IsCodec, entry_at}
use Rattle.adr_sql.proofs.Keys.{ties, and_true, equal_is, tie_turned}
use Rattle.adr_sql.proofs.Selections.{passes}
use Rattle.adr_sql.proofs.Rows.{key_order_total}

module _ {K V : Type 0} (n : ℕ) (cmp : K → K → Ordering) (row_of : K × V → Row) (key_of : K → Row) (codec : IsCodec n cmp row_of key_of) where
  -- to put a row is to insert
  pub put_entry : (k : K) (v : V) (es : List (K × V)) → with_row n (row_of (k, v)) (map row_of es) ≡ map row_of (insert_entry cmp es k v)
  put_entry k v [] = refl
  put_entry k v (e ∷ es) = go (cmp k e.0) refl (put_entry k v es)
    where
      go : (o : Ordering) → cmp k e.0 ≡ o → with_row n (row_of (k, v)) (map row_of es) ≡ map row_of (insert_entry cmp es k v)
          → match_ordering (key_order n (row_of e) (row_of (k, v))) (row_of e ∷ with_row n (row_of (k, v)) (map row_of es)) (row_of (k, v) ∷ map row_of es) (row_of (k, v) ∷ row_of e ∷ map row_of es)
          ≡ map row_of (match_ordering o ((k, v) ∷ e ∷ es) ((e.0, v) ∷ es) (e ∷ insert_entry cmp es k v))
      go o is more = rw (turned o is) (by o is more)
        where
          turned : (o : Ordering) → cmp k e.0 ≡ o → key_order n (row_of e) (row_of (k, v)) ≡ ordering_reverse o
          turned o is = (key_order_total n).antisymm (row_of e) (row_of (k, v)) ∙ ap ordering_reverse (codec.keyed k v e ∙ is)

          by : (o : Ordering) → cmp k e.0 ≡ o → with_row n (row_of (k, v)) (map row_of es) ≡ map row_of (insert_entry cmp es k v)
              → match_ordering (ordering_reverse o) (row_of e ∷ with_row n (row_of (k, v)) (map row_of es)) (row_of (k, v) ∷ map row_of es) (row_of (k, v) ∷ row_of e ∷ map row_of es)
              ≡ map row_of (match_ordering o ((k, v) ∷ e ∷ es) ((e.0, v) ∷ es) (e ∷ insert_entry cmp es k v))
          by Less is more = refl
          by Equal is more = ap (λ r. r ∷ map row_of es) (codec.same e.0 k v is)
          by Greater is more = ap (λ l. row_of e ∷ l) more

  rest_apart : (k : K) (e : K × V) (es : List (K × V)) → has_key n (key_of k) (row_of e) ≡ true → IsAscending (λ a b. key_order n a b ≡ Less) (map row_of (e ∷ es)) → AllByRecursion (λ r. has_key n (key_of k) r ≡ false) (map row_of es)
  rest_apart k e es is up = all_weaker (λ r. key_order n (row_of e) r ≡ Less) (λ r. has_key n (key_of k) r ≡ false)
      (λ r less. ap is_eq ((key_order_total n).congr (key_of k) (row_of e) r (ties _ is) ∙ less)) (map row_of es) up.0

  -- to delete by the whole key is to remove
  pub remove_entry_is : (k : K) (es : List (K × V)) → IsAscending (λ a b. key_order n a b ≡ Less) (map row_of es) → rows_without n (key_of k) (map row_of es) ≡ map row_of (remove_entry (is_at (cmp k)) es)
  remove_entry_is k [] up = refl
  remove_entry_is k (e ∷ es) up = go (has_key n (key_of k) (row_of e)) refl (ap is_eq (codec.named k e)) (remove_entry_is k es up.1)
    where
      go : (b : Bool) → has_key n (key_of k) (row_of e) ≡ b → has_key n (key_of k) (row_of e) ≡ is_eq (cmp k e.0) → rows_without n (key_of k) (map row_of es) ≡ map row_of (remove_entry (is_at (cmp k)) es)
          → cond (not (has_key n (key_of k) (row_of e))) (row_of e ∷ rows_without n (key_of k) (map row_of es)) (rows_without n (key_of k) (map row_of es)) ≡ map row_of (cond (is_eq (cmp k e.0)) es (e ∷ remove_entry (is_at (cmp k)) es))
      go true is same more = rw (← same, is) (filter_all _ (map row_of es) (all_weaker (λ r. has_key n (key_of k) r ≡ false) (λ r. not (has_key n (key_of k) r) ≡ true) (λ r no. ap not no) _ (rest_apart k e es is up)))
      go false is same more = rw (← same, is) (ap (λ l. row_of e ∷ l) more)

  -- to read by the whole key is to look up
  pub read_entry : (k : K) (es : List (K × V)) → IsAscending (λ a b. key_order n a b ≡ Less) (map row_of es) → rows_at n (key_of k) (map row_of es) ≡ map row_of (entry_at k (lookup (is_at (cmp k)) es))
  read_entry k [] up = refl
  read_entry k (e ∷ es) up = go (has_key n (key_of k) (row_of e)) refl (codec.named k e) (read_entry k es up.1)
    where
      go : (b : Bool) → has_key n (key_of k) (row_of e) ≡ b → key_order n (key_of k) (row_of e) ≡ cmp k e.0 → rows_at n (key_of k) (map row_of es) ≡ map row_of (entry_at k (lookup (is_at (cmp k)) es))
          → cond (has_key n (key_of k) (row_of e)) (row_of e ∷ rows_at n (key_of k) (map row_of es)) (rows_at n (key_of k) (map row_of es)) ≡ map row_of (entry_at k (cond (is_eq (cmp k e.0)) (Some e.1) (lookup (is_at (cmp k)) es)))
      go true is same more = rw (← ap is_eq same, is) (ap₂ ◌∷◌ (sym (codec.same e.0 k e.1 (sym same ∙ ties _ is))) (filter_none _ (map row_of es) (rest_apart k e es is up)))
      go false is same more = rw (← ap is_eq same, is) more

  -- a row with a key is that of the key's entry
  pub entry_found : (k : K) (es : List (K × V)) → IsAscending (λ a b. key_order n a b ≡ Less) (map row_of es) → (row : Row) → Has (map row_of es) row → has_key n (key_of k) row ≡ true → (v : V) × (lookup (is_at (cmp k)) es ≡ Some v) × (row ≡ row_of (k, v))
  entry_found k es up row has named = go (lookup (is_at (cmp k)) es) (subst (λ rows. Has rows row) (read_entry k es up) (has_kept (has_key n (key_of k)) (map row_of es) row has named))
    where
      go : (o : Option V) → Has (map row_of (entry_at k o)) row → (v : V) × (o ≡ Some v) × (row ≡ row_of (k, v))
      go None h = absurd h
      go (Some v) (inl same) = (v, refl, same)
      go (Some v) (inr none) = absurd none

-- ---- a set is a map to nothing

abbrev pub keys_alone : {K : Type 0} → List K → List (K × Unit {0})
keys_alone = map (λ k. (k, tt))

pub insert_key_is : {K : Type 0} (cmp : K → K → Ordering) (k : K) (ks : List K) → insert_entry cmp (keys_alone ks) k tt ≡ keys_alone (insert_key cmp ks k)
insert_key_is cmp k [] = refl
insert_key_is {K} cmp k (x ∷ xs) = by (cmp k x) (insert_key_is cmp k xs)
  where
    by : (o : Ordering) → insert_entry cmp (keys_alone xs) k tt ≡ keys_alone (insert_key cmp xs k)
        → match_ordering o ((k, tt) ∷ keys_alone (x ∷ xs)) (keys_alone (x ∷ xs)) ((x, tt) ∷ insert_entry cmp (keys_alone xs) k tt) ≡ keys_alone (match_ordering o (k ∷ x ∷ xs) (x ∷ xs) (x ∷ insert_key cmp xs k))
    by Less more = refl
    by Equal more = refl
    by Greater more = ap (λ l. (x, tt) ∷ l) more

pub fold_keys : {K : Type 0} (cmp : K → K → Ordering) (before ks : List K) → fold (λ m e. insert_entry cmp m e.0 e.1) (keys_alone before) (keys_alone ks) ≡ keys_alone (fold (insert_key cmp) before ks)
fold_keys cmp before [] = refl
fold_keys {K} cmp before (k ∷ ks) = ap (λ (m : List (K × Unit {0})). fold (λ m e. insert_entry cmp m e.0 e.1) m (keys_alone ks)) (insert_key_is cmp k before) ∙ fold_keys cmp (insert_key cmp before k) ks

pub keys_back : {K : Type 0} (ks : List K) → map (λ e. e.0) (keys_alone ks) ≡ ks
keys_back ks = map_back (λ k. (k, tt)) (λ e. e.0) (λ k. refl) ks

-- ---- keys

pub then_none : (o : Ordering) → ordering_then o Equal ≡ o
then_none Less = refl
then_none Equal = refl
then_none Greater = refl

-- a number
pub number_key : (j k : ℤ) (a b : Row) → key_order 1 (Int j ∷ a) (Int k ∷ b) ≡ int_cmp j k
number_key j k a b = then_none _ ∙ value_cmp-Int j k

-- a text, byte by byte
pub text_same : (j k : List ℕ) → slice_cmp nat_cmp k j ≡ Equal → k ≡ j
text_same j k e = (bytes_eq-Decides k j).0 (sym (is_eq-slice_cmp k j) ∙ ap is_eq e)

pub text_key : (s t : List ℕ) (a b : Row) → key_order 1 (Text s ∷ a) (Text t ∷ b) ≡ slice_cmp nat_cmp s t
text_key s t a b = then_none _ ∙ value_cmp-Text s t

-- the test of a column that is a text
abbrev pub is_text : ℕ → List Term
is_text at = op2 (Compare Eq Binary) (col 1 (suc at)) (col 0 0) ∷ []

pub text_passes : (at : ℕ) (wanted text : List ℕ) (e : Row) → column e at ≡ Text text → passes (Text wanted ∷ []) (is_text at) (Null ∷ e) ≡ bytes_eq text wanted
text_passes at wanted text e is =
    and_true _ ∙ ap (λ v. equal Binary v (Text wanted)) is ∙ equal_is (Text text) (Text wanted) refl ∙ tie_turned (Text wanted) (Text text)
    ∙ ap is_eq (value_cmp-Text text wanted) ∙ is_eq-slice_cmp text wanted

-- a number, and then a text
pub number_text_key : (j k : ℤ) (s t : List ℕ) (a b : Row) → key_order 2 (Int j ∷ Text s ∷ a) (Int k ∷ Text t ∷ b) ≡ ordering_then (int_cmp j k) (slice_cmp nat_cmp s t)
number_text_key j k s t a b = ap₂ ordering_then (value_cmp-Int j k) (then_none _ ∙ value_cmp-Text s t)

-- a text, and then a number
pub text_number_key : (s t : List ℕ) (j k : ℤ) (a b : Row) → key_order 2 (Text s ∷ Int j ∷ a) (Text t ∷ Int k ∷ b) ≡ ordering_then (slice_cmp nat_cmp s t) (int_cmp j k)
text_number_key s t j k a b = ap₂ ordering_then (value_cmp-Text s t) (then_none _ ∙ value_cmp-Int j k)

-- a number, a text, and then a number
pub number_text_number_key : (h i : ℤ) (s t : List ℕ) (j k : ℤ) (a b : Row) → key_order 3 (Int h ∷ Text s ∷ Int j ∷ a) (Int i ∷ Text t ∷ Int k ∷ b) ≡ ordering_then (int_cmp h i) (ordering_then (slice_cmp nat_cmp s t) (int_cmp j k))
number_text_number_key h i s t j k a b = ap₂ ordering_then (value_cmp-Int h i) (text_number_key s t j k a b)
