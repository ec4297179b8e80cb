-- What a set has, as a list that rises.
use Rattle.std.proofs.Common.{◌≡◌, Bool, true, false, ◌||◌, List, [], ◌∷◌, refl, ap, ◌∙◌, Ordering, Less, Equal, Greater}
use Rattle.adr_db.proofs.Common.{match_ordering, is_eq, ordering_reverse, AllByRecursion, list_any, is_at, insert_key, alike_right, IsAscending, all_weaker}
use Rattle.std.specs.Cmp.{IsTotalOrder}

twice : (b c : Bool) → (b || c) ≡ (b || (b || c))
twice true c = refl
twice false c = refl

turned : (a b c : Bool) → (a || (b || c)) ≡ (b || (a || c))
turned true true c = refl
turned true false c = refl
turned false true c = refl
turned false false c = refl

module _ {K : Type 0} {R : K → K → Ordering} (order : IsTotalOrder R) where
  -- a set with one more key has that key and those that it had
  pub any-insert_key : (q k : K) (ks : List K) → list_any (is_at (R q)) (insert_key R ks k) ≡ (is_eq (R q k) || list_any (is_at (R q)) ks)
  any-insert_key q k [] = refl
  any-insert_key q k (x ∷ xs) = by (R k x) refl (any-insert_key q k xs)
    where
      by : (o : Ordering) → R k x ≡ o → list_any (is_at (R q)) (insert_key R xs k) ≡ (is_eq (R q k) || list_any (is_at (R q)) xs)
          → list_any (is_at (R q)) (match_ordering o (k ∷ x ∷ xs) (x ∷ xs) (x ∷ insert_key R xs k)) ≡ (is_eq (R q k) || (is_eq (R q x) || list_any (is_at (R q)) xs))
      by Less is more = refl
      by Equal is more = rw (alike_right order k x q is) (twice (is_eq (R q x)) (list_any (is_at (R q)) xs))
      by Greater is more = ap (λ b. is_eq (R q x) || b) more ∙ turned (is_eq (R q x)) (is_eq (R q k)) (list_any (is_at (R q)) xs)

  all-insert_key : (P : K → Type 0) (k : K) (ks : List K) → P k → AllByRecursion P ks → AllByRecursion P (insert_key R ks k)
  all-insert_key P k [] is all = (is, tt)
  all-insert_key P k (x ∷ xs) is all = by (R k x) (all-insert_key P k xs is all.1)
    where
      by : (o : Ordering) → AllByRecursion P (insert_key R xs k) → AllByRecursion P (match_ordering o (k ∷ x ∷ xs) (x ∷ xs) (x ∷ insert_key R xs k))
      by Less more = (is, all)
      by Equal more = all
      by Greater more = (all.0, more)

  back : (x k : K) → R k x ≡ Greater → R x k ≡ Less
  back x k h = order.antisymm x k ∙ ap ordering_reverse h

  -- and its keys rise still
  pub ascending-insert_key : (k : K) (ks : List K) → IsAscending (λ i j. R i j ≡ Less) ks → IsAscending (λ i j. R i j ≡ Less) (insert_key R ks k)
  ascending-insert_key k [] up = (tt, tt)
  ascending-insert_key k (x ∷ xs) up = by (R k x) refl (ascending-insert_key k xs up.1) (λ above. all-insert_key (λ j. R x j ≡ Less) k xs (back x k above) up.0)
    where
      by : (o : Ordering) → R k x ≡ o → IsAscending (λ i j. R i j ≡ Less) (insert_key R xs k) → (R k x ≡ Greater → AllByRecursion (λ j. R x j ≡ Less) (insert_key R xs k))
          → IsAscending (λ i j. R i j ≡ Less) (match_ordering o (k ∷ x ∷ xs) (x ∷ xs) (x ∷ insert_key R xs k))
      by Less is more above = ((is, all_weaker (λ j. R x j ≡ Less) (λ j. R k j ≡ Less) (λ j less. order.trans k x j is less) xs up.0), up)
      by Equal is more above = up
      by Greater is more above = (above is, more)
