-- What rises by key is the map that it makes, put one after another.
use Rattle.std.proofs.Common.{◌≡◌, ℕ, List, [], ◌∷◌, ◌++◌, map, fold, sym, ap, subst, refl, ◌∙◌, append_assoc, append-nil, Ordering, Less, Greater}
use Rattle.adr_sql.proofs.Common.{ordering_reverse, AllByRecursion, insert_entry, Row, IsAscending}
use Rattle.adr_sql.specs.Keys.{key_order}
use Rattle.adr_sql.proofs.Rows.{key_order_total}

-- where what lies above all that is there goes behind it, each of a list that rises goes behind the one before it
module _ {X : Type 0} (IsAbove : X → X → Type 0) (put : List X → X → List X) (last : (xs : List X) (x : X) → AllByRecursion (IsAbove x) xs → put xs x ≡ xs ++ x ∷ []) where
  at_next : (P : X → Type 0) (before xs : List X) (x : X) → AllByRecursion P (before ++ x ∷ xs) → P x
  at_next P [] xs x h = h.0
  at_next P (b ∷ before) xs x h = at_next P before xs x h.1

  above_those_before : (before xs : List X) (x : X) → IsAscending (λ a b. IsAbove b a) (before ++ x ∷ xs) → AllByRecursion (IsAbove x) before
  above_those_before [] xs x up = tt
  above_those_before (b ∷ before) xs x up = (at_next (λ y. IsAbove y b) before xs x up.0, above_those_before before xs x up.1)

  put_behind : (before xs : List X) → IsAscending (λ a b. IsAbove b a) (before ++ xs) → fold put before xs ≡ before ++ xs
  put_behind before [] up = sym (append-nil before)
  put_behind before (x ∷ xs) up =
      let here : put before x ≡ before ++ x ∷ [] = last before x (above_those_before before xs x up) in
      let same : (before ++ x ∷ []) ++ xs ≡ before ++ x ∷ xs = append_assoc before (x ∷ []) xs in
      ap (λ (l : List X). fold put l xs) here ∙ put_behind (before ++ x ∷ []) xs (subst (IsAscending (λ a b. IsAbove b a)) (sym same) up) ∙ same

-- ---- a map

module _ {K V : Type 0} (cmp : K → K → Ordering) where
  last_entry : (es : List (K × V)) (e : K × V) → AllByRecursion (λ b. cmp e.0 b.0 ≡ Greater) es → insert_entry cmp es e.0 e.1 ≡ es ++ e ∷ []
  last_entry [] e above = refl
  last_entry (b ∷ es) e above = rw above.0 (ap (λ l. b ∷ l) (last_entry es e above.1))

  pub map_again : (es : List (K × V)) → IsAscending (λ a b. cmp b.0 a.0 ≡ Greater) es → fold (λ m e. insert_entry cmp m e.0 e.1) [] es ≡ es
  map_again es up = put_behind (λ a b. cmp a.0 b.0 ≡ Greater) (λ m e. insert_entry cmp m e.0 e.1) last_entry [] es up

-- ---- a table

-- what stands for rows that rise, rises
pub rise : {X : Type 0} (n : ℕ) (cmp : X → X → Ordering) (row_of : X → Row) → ((x y : X) → key_order n (row_of x) (row_of y) ≡ cmp x y) → (xs : List X)
    → IsAscending (λ a b. key_order n a b ≡ Less) (map row_of xs) → IsAscending (λ a b. cmp b a ≡ Greater) xs
rise n cmp row_of same [] up = tt
rise {X} n cmp row_of same (x ∷ xs) up = (above xs up.0, rise n cmp row_of same xs up.1)
  where
    above : (ys : List X) → AllByRecursion (λ r. key_order n (row_of x) r ≡ Less) (map row_of ys) → AllByRecursion (λ b. cmp b x ≡ Greater) ys
    above [] low = tt
    above (y ∷ ys) low = (sym (same y x) ∙ (key_order_total n).antisymm (row_of y) (row_of x) ∙ ap ordering_reverse low.0, above ys low.1)
