-- Lists that stand in order one behind the other.
use Rattle.std.proofs.Common.{◌≡◌, List, [], ◌∷◌, ◌++◌, Ordering, Less}
use Rattle.std.specs.List.{All, AllByRecursion, Contains}
use Rattle.std.proofs.lemmas.List.Elements.{All-cons, All-contains, All-from_recursion, All-nil, Contains-append_right}
use Rattle.adr_refresh.proofs.Common.{IsStrictlySortedBy}

left_of : {A : Type 0} (P : A → Type 0) (xs ys : List A) → AllByRecursion P (xs ++ ys) → AllByRecursion P xs
left_of P [] ys all = tt
left_of P (x ∷ xs) ys all = (all.0, left_of P xs ys all.1)

module _ {A : Type 0} (cmp : A → A → Ordering) where
  pub sorted_left : (xs ys : List A) → IsStrictlySortedBy cmp (xs ++ ys) → IsStrictlySortedBy cmp xs
  unfolding IsStrictlySortedBy
  sorted_left [] ys up = tt
  sorted_left (x ∷ xs) ys up = (left_of (λ y. cmp x y ≡ Less) xs ys up.0, sorted_left xs ys up.1)

  pub sorted_right : (xs ys : List A) → IsStrictlySortedBy cmp (xs ++ ys) → IsStrictlySortedBy cmp ys
  unfolding IsStrictlySortedBy
  sorted_right [] ys up = up
  sorted_right (x ∷ xs) ys up = sorted_right xs ys up.1

  -- those before are below each of those behind
  pub all_below : (xs ys : List A) → IsStrictlySortedBy cmp (xs ++ ys) → (y : A) → Contains ys y → All (λ x. cmp x y ≡ Less) xs
  unfolding IsStrictlySortedBy
  all_below [] ys up y behind = All-nil (λ x. cmp x y ≡ Less)
  all_below (x ∷ xs) ys up y behind =
      All-cons (λ z. cmp z y ≡ Less) x xs
      (All-contains (λ l. cmp x l ≡ Less) (xs ++ ys) y (All-from_recursion (λ l. cmp x l ≡ Less) (xs ++ ys) up.0) (Contains-append_right xs ys y behind))
      (all_below xs ys up.1 y behind)
