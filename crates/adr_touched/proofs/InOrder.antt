-- Sets of items stand in order and have each item, and lists in order stand so one behind the other.
use Rattle.std.proofs.Common.{◌≡◌, List, [], ◌∷◌, ◌++◌, fold, Ordering, Less, Equal, Greater, refl, sym, ap, subst, ◌∙◌}
use Rattle.adr_refresh.proofs.Common.{All, All-append, All-cons, All-contains, All-from_recursion, All-nil, All-weaker, Behind, CmpEqualImpliesEq, Contains, Contains-append_left, Contains-append_right, IsStrictlySortedBy, IsTotalOrder, each_there, insert_key, match_ordering, none_sorted, ordering_reverse, recursion_from_All, through}
use Rattle.adr_refresh.proofs.ListLemmas.{behind_first, the_first}
use Rattle.std.proofs.lemmas.Map.Views.{All-insert_key}
use Rattle.adr_touched.specs.Answers.{HasEach}
use Rattle.adr_touched.specs.Touched.{set_of}

module _ {K : Type 0} {cmp : K → K → Ordering} (order : IsTotalOrder cmp) where
  sorted_put : (k : K) (ks : List K) → IsStrictlySortedBy cmp ks → IsStrictlySortedBy cmp (insert_key cmp ks k)
  unfolding IsStrictlySortedBy
  sorted_put k [] h = (tt, tt)
  sorted_put k (x ∷ xs) h = elim (cmp k x) as (λ o. cmp k x ≡ o → IsStrictlySortedBy cmp (match_ordering o (k ∷ x ∷ xs) (x ∷ xs) (x ∷ insert_key cmp xs k))) [
    | Less ↦ λ is. ((is, through (Behind cmp x) (Behind cmp k) xs xs (All-weaker (Behind cmp x) (Behind cmp k) (λ y less. order.trans k x y is less) xs) h.0), h)
    | Equal ↦ λ is. h
    | Greater ↦ λ is.
        let behind : cmp x k ≡ Less = order.antisymm x k ∙ ap ordering_reverse is in
        (through (Behind cmp x) (Behind cmp x) xs (insert_key cmp xs k) (λ all. All-insert_key cmp k (Behind cmp x) xs all behind) h.0, sorted_put k xs h.1)
  ] refl

  sorted_each : (start xs : List K) → IsStrictlySortedBy cmp start → IsStrictlySortedBy cmp (fold (insert_key cmp) start xs)
  sorted_each start [] h = h
  sorted_each start (x ∷ xs) h = sorted_each (insert_key cmp start x) xs (sorted_put x start h)

  pub set_sorted : (xs : List K) → IsStrictlySortedBy cmp (set_of cmp xs)
  set_sorted xs = sorted_each [] xs (none_sorted cmp)

module _ {K : Type 0} {cmp : K → K → Ordering} (exact : CmpEqualImpliesEq cmp) where
  -- a key that is put is there
  put_there : (k : K) (ks : List K) → Contains (insert_key cmp ks k) k
  put_there k [] = the_first k []
  put_there k (x ∷ xs) = elim (cmp k x) as (λ o. cmp k x ≡ o → Contains (match_ordering o (k ∷ x ∷ xs) (x ∷ xs) (x ∷ insert_key cmp xs k)) k) [
    | Less ↦ λ is. the_first k (x ∷ xs)
    | Equal ↦ λ is. subst (Contains (x ∷ xs)) (sym (exact k x is)) (the_first x xs)
    | Greater ↦ λ is. behind_first x (insert_key cmp xs k) k (put_there k xs)
  ] refl

  -- and those that were there stay
  all_stay : (k : K) (ks : List K) → All (Contains (insert_key cmp ks k)) ks
  all_stay k [] = All-nil (Contains (k ∷ []))
  all_stay k (x ∷ xs) = elim (cmp k x) as (λ o. cmp k x ≡ o → All (Contains (match_ordering o (k ∷ x ∷ xs) (x ∷ xs) (x ∷ insert_key cmp xs k))) (x ∷ xs)) [
    | Less ↦ λ is. each_there (Contains (k ∷ x ∷ xs)) (x ∷ xs) (λ y there. behind_first k (x ∷ xs) y there)
    | Equal ↦ λ is. each_there (Contains (x ∷ xs)) (x ∷ xs) (λ y there. there)
    | Greater ↦ λ is.
        let all : List K = insert_key cmp xs k in
        All-cons (Contains (x ∷ all)) x xs (the_first x all) (All-weaker (Contains all) (Contains (x ∷ all)) (λ y there. behind_first x all y there) xs (all_stay k xs))
  ] refl

  stays_each : (xs start : List K) (k : K) → Contains start k → Contains (fold (insert_key cmp) start xs) k
  stays_each [] start k there = there
  stays_each (x ∷ xs) start k there = stays_each xs (insert_key cmp start x) k (All-contains (Contains (insert_key cmp start x)) start k (all_stay x start) there)

  each_put : (xs start : List K) → All (Contains (fold (insert_key cmp) start xs)) xs
  each_put [] start = All-nil (Contains start)
  each_put (x ∷ xs) start = All-cons (Contains (fold (insert_key cmp) (insert_key cmp start x) xs)) x xs (stays_each xs (insert_key cmp start x) x (put_there x start)) (each_put xs (insert_key cmp start x))

  pub set_has : (xs : List K) → HasEach (set_of cmp xs) xs
  set_has xs k there = All-contains (Contains (set_of cmp xs)) xs k (each_put xs []) there

pub sorted_append : {K : Type 0} (cmp : K → K → Ordering) (xs ys : List K) → IsStrictlySortedBy cmp xs → IsStrictlySortedBy cmp ys → ((a b : K) → Contains xs a → Contains ys b → cmp a b ≡ Less) → IsStrictlySortedBy cmp (xs ++ ys)
unfolding IsStrictlySortedBy
sorted_append cmp [] ys one other apart = other
sorted_append cmp (x ∷ xs) ys one other apart = (
  recursion_from_All (Behind cmp x) (xs ++ ys)
      (All-append (Behind cmp x) xs ys (All-from_recursion (Behind cmp x) xs one.0) (each_there (Behind cmp x) ys (λ b there. apart x b (the_first x xs) there))),
  sorted_append cmp xs ys one.1 other (λ a b mine. apart a b (behind_first x xs a mine)),
)

-- ---- a list in order that is one list behind another, taken apart

pub front_sorted : {K : Type 0} (cmp : K → K → Ordering) (xs ys : List K) → IsStrictlySortedBy cmp (xs ++ ys) → IsStrictlySortedBy cmp xs
unfolding IsStrictlySortedBy
front_sorted cmp [] ys h = tt
front_sorted cmp (x ∷ xs) ys h =
    let all : All (Behind cmp x) (xs ++ ys) = All-from_recursion (Behind cmp x) (xs ++ ys) h.0 in
    (recursion_from_All (Behind cmp x) xs (each_there (Behind cmp x) xs (λ y there. All-contains (Behind cmp x) (xs ++ ys) y all (Contains-append_left xs ys y there))), front_sorted cmp xs ys h.1)

pub back_sorted : {K : Type 0} (cmp : K → K → Ordering) (xs ys : List K) → IsStrictlySortedBy cmp (xs ++ ys) → IsStrictlySortedBy cmp ys
unfolding IsStrictlySortedBy
back_sorted cmp [] ys h = h
back_sorted cmp (x ∷ xs) ys h = back_sorted cmp xs ys h.1

-- all of the first are before each of the second
pub all_before : {K : Type 0} (cmp : K → K → Ordering) (xs ys : List K) → IsStrictlySortedBy cmp (xs ++ ys) → (y : K) → Contains ys y → All (λ x. cmp x y ≡ Less) xs
unfolding IsStrictlySortedBy
all_before cmp [] ys h y there = All-nil (λ x. cmp x y ≡ Less)
all_before cmp (x ∷ xs) ys h y there =
    All-cons (λ x. cmp x y ≡ Less) x xs (All-contains (Behind cmp x) (xs ++ ys) y (All-from_recursion (Behind cmp x) (xs ++ ys) h.0) (Contains-append_right xs ys y there)) (all_before cmp xs ys h.1 y there)
