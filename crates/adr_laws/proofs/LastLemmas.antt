-- The last of what is made of some.
use Rattle.std.proofs.Common.{◌≡◌, ◌<◌, ℕ, zero, suc, Bool, true, false, cond, List, [], ◌∷◌, map, filter, Option, Some, None, Less, refl, sym, ap, ◌∙◌, arith}
use Rattle.std.specs.List.{filter_map, cons_option}
use Rattle.adr_laws.proofs.Common.{All, Contains, nat_cmp, keys_of, values_of, ranked, All-contains, All-from_recursion, All-head, All-map, All-tail, IsStrictlySortedBy}
use Rattle.adr_laws.specs.Reported.{last_of}
use Rattle.adr_view.proofs.OrderLemmas.{InOrder, Behind, each_row}
use Rattle.adr_view.proofs.RowLemmas.{each_there}

last_more : {A : Type 0} (o : Option A) (xs : List A) (x : A) → last_of xs ≡ Some x → last_of (cons_option o xs) ≡ Some x
last_more None xs x h = h
last_more (Some y) [] x h = absurd (cc)
last_more (Some y) (z ∷ zs) x h = h

module _ {A B : Type 0} (f : A → Option B) where
  -- nothing is made
  pub none_made : (xs : List A) → All (λ x. f x ≡ None) xs → filter_map f xs ≡ []
  none_made [] h = refl
  none_made (x ∷ xs) h = rw (All-head (λ x. f x ≡ None) x xs h) (none_made xs (All-tail (λ x. f x ≡ None) x xs h))

  -- what is made of a row is the last, where nothing is made of those behind it in the order
  pub last_made : (es : List (ℕ × A)) → InOrder nat_cmp es → (e : ℕ × A) → Contains es e → (y : B) → f e.1 ≡ Some y → All (λ d. e.0 < d.0 → f d.1 ≡ None) es → last_of (filter_map f (values_of es)) ≡ Some y
  unfolding IsStrictlySortedBy
  last_made [] sorted e there y is none = absurd (omega (arith, there.1))
  last_made (d ∷ es) sorted e (zero, within, same) y is none =
      let behind : All (λ r. f r.1 ≡ None) es = each_there (λ r. f r.1 ≡ None) es (λ r there.
      let less : nat_cmp d.0 r.0 ≡ Less = All-contains (λ (r : ℕ × A). Behind nat_cmp d.0 r.0) es r (each_row (Behind nat_cmp d.0) es (All-from_recursion (Behind nat_cmp d.0) (keys_of es) sorted.0)) there in
      let low : d.0 < r.0 = ranked d.0 r.0 Less (sym less) in
      let number : d.0 ≡ e.0 = ap (λ (r : ℕ × A). r.0) same in
      All-contains (λ d. e.0 < d.0 → f d.1 ≡ None) es r (All-tail (λ d. e.0 < d.0 → f d.1 ≡ None) d es none) there (omega (arith, low, number))) in
      ap (λ o. last_of (cons_option o (filter_map f (values_of es)))) (ap (λ (r : ℕ × A). f r.1) same ∙ is) ∙ ap (λ ys. last_of (y ∷ ys)) (none_made (values_of es) (All-map (λ x. f x ≡ None) (λ r. r.1) es behind))
  last_made (d ∷ es) sorted e (suc i, within, same) y is none =
      last_more (f d.1) (filter_map f (values_of es)) y (last_made es sorted.1 e (i, omega (arith, within), same) y is (All-tail (λ d. e.0 < d.0 → f d.1 ≡ None) d es none))

  -- of those that pass
  pub made_of_passing : (passes : A → Bool) (xs : List A) → filter_map f (filter passes xs) ≡ filter_map (λ x. cond (passes x) (f x) None) xs
  made_of_passing passes [] = refl
  made_of_passing passes (x ∷ xs) = elim (passes x) as (λ b. filter_map f (cond b (x ∷ filter passes xs) (filter passes xs)) ≡ cons_option (cond b (f x) None) (filter_map (λ x. cond (passes x) (f x) None) xs)) [
    | true ↦ ap (cons_option (f x)) (made_of_passing passes xs)
    | false ↦ made_of_passing passes xs
  ]

  -- of those that are made of others
  pub made_of_made : {C : Type 0} (g : C → A) (h : C → Option B) → ((x : C) → f (g x) ≡ h x) → (xs : List C) → filter_map f (map g xs) ≡ filter_map h xs
  made_of_made g h same [] = refl
  made_of_made g h same (x ∷ xs) = ap (λ o. cons_option o (filter_map f (map g xs))) (same x) ∙ ap (cons_option (h x)) (made_of_made g h same xs)
