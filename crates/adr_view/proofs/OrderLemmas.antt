-- Rows whose keys stand in order, each once: after a put, a removal and a filter, and put one after another.
use Rattle.std.proofs.Common.{◌≡◌, Bool, true, false, cond, List, [], ◌∷◌, filter, Ordering, Less, Equal, Greater, refl, ap, subst, ◌∙◌, arith}
use Rattle.adr_view.proofs.Common.{All, AllByRecursion, IsStrictlySortedBy, ordering_reverse, match_ordering, IsTotalOrder, keys_of, remove_entry, insert_entry, get_or-map, All-from_recursion, recursion_from_All, All-weaker, All-map, All-filter, All-keys-insert_entry, All-map-remove_entry, with_rows, map_of}
use Rattle.std.proofs.lemmas.Map.Entries.{length-keys_of}

-- the keys of rows stand in order, each once
abbrev pub InOrder : {K X : Type 0} → (K → K → Ordering) → List (K × X) → Type 0
InOrder cmp es = IsStrictlySortedBy cmp (keys_of es)

pub none_sorted : {K : Type 0} (cmp : K → K → Ordering) → IsStrictlySortedBy cmp []
unfolding IsStrictlySortedBy
none_sorted cmp = tt

-- what holds of each key holds of the key of each row
pub each_row : {K X : Type 0} (P : K → Type 0) (es : List (K × X)) → All P (keys_of es) → All (λ e. P e.0) es
each_row P es h = λ i d l. subst P (get_or-map (λ e. e.0) es i d d.0 l) (h i d.0 (omega (arith, l, length-keys_of es)))

-- a key behind another
abbrev pub Behind : {K : Type 0} → (K → K → Ordering) → K → K → Type 0
Behind cmp k y = cmp k y ≡ Less

-- what is shown for `All`
pub through : {K L : Type 0} (P : K → Type 0) (Q : L → Type 0) (ks : List K) (ls : List L) → (All P ks → All Q ls) → AllByRecursion P ks → AllByRecursion Q ls
through P Q ks ls shown h = recursion_from_All Q ls (shown (All-from_recursion P ks h))

module _ {K X : Type 0} (cmp : K → K → Ordering) where
  pub in_order_removed : (goes : K → Bool) (es : List (K × X)) → InOrder cmp es → InOrder cmp (remove_entry goes es)
  unfolding IsStrictlySortedBy
  in_order_removed goes [] h = tt
  in_order_removed goes (e ∷ es) h = elim (goes e.0) as (λ b. InOrder cmp (cond b es (e ∷ remove_entry goes es))) [
    | true ↦ h.1
    | false ↦ (through (Behind cmp e.0) (Behind cmp e.0) (keys_of es) (keys_of (remove_entry goes es)) (All-map-remove_entry goes (λ r. r.0) (Behind cmp e.0) es) h.0, in_order_removed goes es h.1)
  ]

  pub in_order_filtered : (passes : K × X → Bool) (es : List (K × X)) → InOrder cmp es → InOrder cmp (filter passes es)
  unfolding IsStrictlySortedBy
  in_order_filtered passes [] h = tt
  in_order_filtered passes (e ∷ es) h = elim (passes e) as (λ b. InOrder cmp (cond b (e ∷ filter passes es) (filter passes es))) [
    | true ↦ (
      through (Behind cmp e.0) (Behind cmp e.0) (keys_of es) (keys_of (filter passes es))
          (λ all. All-map (Behind cmp e.0) (λ r. r.0) (filter passes es) (All-filter passes (λ r. Behind cmp e.0 r.0) es (each_row (Behind cmp e.0) es all))) h.0,
      in_order_filtered passes es h.1,
    )
    | false ↦ in_order_filtered passes es h.1
  ]

module _ {K X : Type 0} {cmp : K → K → Ordering} (order : IsTotalOrder cmp) where
  pub in_order_put : (k : K) (v : X) (es : List (K × X)) → InOrder cmp es → InOrder cmp (insert_entry cmp es k v)
  unfolding IsStrictlySortedBy
  in_order_put k v [] h = (tt, tt)
  in_order_put k v (e ∷ es) h = elim (cmp k e.0) as (λ o. cmp k e.0 ≡ o → InOrder cmp (match_ordering o ((k, v) ∷ e ∷ es) ((e.0, v) ∷ es) (e ∷ insert_entry cmp es k v))) [
    | Less ↦ λ is. ((is, through (Behind cmp e.0) (Behind cmp k) (keys_of es) (keys_of es) (All-weaker (Behind cmp e.0) (Behind cmp k) (λ y less. order.trans k e.0 y is less) (keys_of es)) h.0), h)
    | Equal ↦ λ is. h
    | Greater ↦ λ is.
        let behind : cmp e.0 k ≡ Less = order.antisymm e.0 k ∙ ap ordering_reverse is in
        (through (Behind cmp e.0) (Behind cmp e.0) (keys_of es) (keys_of (insert_entry cmp es k v)) (λ all. All-keys-insert_entry cmp k v (Behind cmp e.0) es all behind) h.0, in_order_put k v es h.1)
  ] refl

  -- rows put one after another stand in order
  pub in_order_rows : (es rows : List (K × X)) → InOrder cmp es → InOrder cmp (with_rows cmp es rows)
  in_order_rows es [] h = h
  in_order_rows es (r ∷ rows) h = in_order_rows (insert_entry cmp es r.0 r.1) rows (in_order_put r.0 r.1 es h)

  -- a row before all that come stays the first
  first_stays : (e : K × X) (es rows : List (K × X)) → AllByRecursion (Behind cmp e.0) (keys_of rows) → with_rows cmp (e ∷ es) rows ≡ e ∷ with_rows cmp es rows
  first_stays e es [] h = refl
  first_stays e es (r ∷ rows) h = rw (order.antisymm r.0 e.0 ∙ ap ordering_reverse h.0) (first_stays e (insert_entry cmp es r.0 r.1) rows h.1)

  -- rows that stand in order make the map as they stand
  pub made_in_order : (rows : List (K × X)) → InOrder cmp rows → map_of cmp rows ≡ rows
  unfolding IsStrictlySortedBy
  made_in_order [] h = refl
  made_in_order (r ∷ rows) h = first_stays r [] rows h.0 ∙ ap (λ es. r ∷ es) (made_in_order rows h.1)
