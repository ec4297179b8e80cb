-- What a table stores and the rows that it holds, with no word of SQL.
use Rattle.std.proofs.Common.{◌≡◌, ℕ, ℤ, Bool, true, false, not, ◌||◌, cond, List, [], ◌∷◌, filter, drop, length, IsTrue, refl, sym, ap, subst, ◌∙◌, Ordering, Less, Equal, Greater, is_eq}
use Rattle.std.specs.Cmp.{IsTotalOrder}
use Rattle.adr_sql.proofs.Common.{match_ordering, ordering_reverse, AllByRecursion, list_any, IsPermutation-refl, IsPermutation-sym, IsPermutation-cons, IsPermutation-trans, IsPermutation-middle, IsPermutation-map, Row, value_cmp, rising, rowid, has_rowid, put_row, without_rowid, IsAscending, is_int, all_of, all_weaker, all-filter, ascending-filter, filter_all, filter-map, IsPermutation-filter, key_cmp_total, without_all, is_taken}
use Rattle.std.specs.List.Sorted.{IsPermutation}
use Rattle.sqlite_trees.proofs.TreeLemmas.{all-put_row, IsTable-put_row}
use Rattle.adr_sql.specs.Keys.{key_order, has_key, with_row, rows_without}
use Rattle.adr_sql.specs.Contents.{Stores}

pub key_order_total : (n : ℕ) → IsTotalOrder (key_order n)
key_order_total n = key_cmp_total (rising n []) 0

-- ---- rows go

filter_twice : {X : Type 0} (a b : X → Bool) (xs : List X) → filter (λ x. not (b x)) (filter (λ x. not (a x)) xs) ≡ filter (λ x. not (a x || b x)) xs
filter_twice a b [] = refl
filter_twice {X} a b (x ∷ xs) = go (a x) (b x) refl refl (filter_twice a b xs)
  where
    go : (p q : Bool) → a x ≡ p → b x ≡ q → filter (λ y. not (b y)) (filter (λ y. not (a y)) xs) ≡ filter (λ y. not (a y || b y)) xs
        → filter (λ y. not (b y)) (cond (not p) (x ∷ filter (λ y. not (a y)) xs) (filter (λ y. not (a y)) xs)) ≡ cond (not (p || q)) (x ∷ filter (λ y. not (a y || b y)) xs) (filter (λ y. not (a y || b y)) xs)
    go true q d e more = more
    go false true d e more = rw e more
    go false false d e more = rw e (ap (λ l. x ∷ l) more)

-- to take rows out by their rowids is to filter
pub without_all_is : (ids : List ℤ) (rows : List Row) → without_all rows ids ≡ filter (λ r. not (list_any (λ id. has_rowid id r) ids)) rows
without_all_is [] rows = sym (filter_all _ rows (all_of _ (λ r. refl) rows))
without_all_is (id ∷ ids) rows = without_all_is ids (without_rowid id rows) ∙ filter_twice (has_rowid id) (λ r. list_any (λ i. has_rowid i r) ids) rows

pub stores_filter : (n width : ℕ) (p : Row → Bool) (stored rows : List Row) → Stores n width stored rows → Stores n width (filter (λ r. p (drop 1 r)) stored) (filter p rows)
stores_filter n width p stored rows h = record {
  rising = ascending-filter _ _ rows h.rising;
  whole = all-filter _ _ rows h.whole;
  same = subst (IsPermutation (filter p rows)) (filter-map p (drop 1) stored) (IsPermutation-filter p _ _ h.same);
  listed = ascending-filter _ _ stored h.listed;
  numbered = all-filter _ _ stored h.numbered;
}

-- ---- a row comes

swapped : {X : Type 0} (a b : X) (xs : List X) → IsPermutation (a ∷ b ∷ xs) (b ∷ a ∷ xs)
swapped a b xs = IsPermutation-middle (a ∷ []) b xs

-- a row that is stored at a free rowid is one more
put_row_adds : (new : Row) (stored : List Row) → is_taken stored new ≡ false → IsPermutation (new ∷ stored) (put_row new stored)
put_row_adds new [] free = IsPermutation-refl _
put_row_adds new (r ∷ stored) free = go (value_cmp (rowid r) (rowid new)) refl free (put_row_adds new stored)
  where
    go : (o : Ordering) → value_cmp (rowid r) (rowid new) ≡ o → (is_eq o || is_taken stored new) ≡ false → (is_taken stored new ≡ false → IsPermutation (new ∷ stored) (put_row new stored))
        → IsPermutation (new ∷ r ∷ stored) (match_ordering o (r ∷ put_row new stored) (new ∷ stored) (new ∷ r ∷ stored))
    go Less is h more = IsPermutation-trans _ _ _ (swapped new r stored) (IsPermutation-cons r _ _ (more h))
    go Equal is h more = absurd cc
    go Greater is h more = IsPermutation-refl _

module _ (n : ℕ) (new : Row) where
  total : IsTotalOrder (key_order n)
  total = key_order_total n

  apart_after : (e : Row) (es : List Row) → key_order n new e ≡ Less → AllByRecursion (λ x. key_order n e x ≡ Less) es → AllByRecursion (λ x. not (has_key n new x) ≡ true) es
  apart_after e es low up = all_weaker _ _ (λ x above. ap (λ o. not (is_eq o)) (total.trans new e x low above)) es up

  -- the row goes in, and the one with its key goes out
  with_row_swaps : (es : List Row) → IsAscending (λ a b. key_order n a b ≡ Less) es → IsPermutation (new ∷ rows_without n new es) (with_row n new es)
  with_row_swaps [] up = IsPermutation-refl _
  with_row_swaps (e ∷ es) up = go (key_order n e new) refl (with_row_swaps es up.1)
    where
      go : (o : Ordering) → key_order n e new ≡ o → IsPermutation (new ∷ rows_without n new es) (with_row n new es)
          → IsPermutation (new ∷ rows_without n new (e ∷ es)) (match_ordering o (e ∷ with_row n new es) (new ∷ es) (new ∷ e ∷ es))
      go Less is more =
          let back : has_key n new e ≡ false = ap is_eq (total.antisymm new e ∙ ap ordering_reverse is) in
          rw back (IsPermutation-trans _ _ _ (swapped new e _) (IsPermutation-cons e _ _ more))
      go Equal is more =
          let back : has_key n new e ≡ true = ap is_eq (total.antisymm new e ∙ ap ordering_reverse is) in
          let others = all_weaker _ (λ x. not (has_key n new x) ≡ true) (λ x above. ap (λ o. not (is_eq o)) (sym (total.congr e new x is) ∙ above)) es up.0 in
          rw (back, filter_all _ es others) (IsPermutation-refl _)
      go Greater is more =
          let low : key_order n new e ≡ Less = total.antisymm new e ∙ ap ordering_reverse is in
          rw (ap is_eq low, filter_all _ es (apart_after e es low up.0)) (IsPermutation-refl _)

  all-with_row : (P : Row → Type 0) (es : List Row) → P new → AllByRecursion P es → AllByRecursion P (with_row n new es)
  all-with_row P [] h all = (h, tt)
  all-with_row P (e ∷ es) h all =
      elim (key_order n e new) as (λ o. AllByRecursion P (match_ordering o (e ∷ with_row n new es) (new ∷ es) (new ∷ e ∷ es)))
      [ Less ↦ (all.0, all-with_row P es h all.1) | Equal ↦ (h, all.1) | Greater ↦ (h, all) ]

  rising-with_row : (es : List Row) → IsAscending (λ a b. key_order n a b ≡ Less) es → IsAscending (λ a b. key_order n a b ≡ Less) (with_row n new es)
  rising-with_row [] up = (tt, tt)
  rising-with_row (e ∷ es) up = go (key_order n e new) refl (rising-with_row es up.1)
    where
      go : (o : Ordering) → key_order n e new ≡ o → IsAscending (λ a b. key_order n a b ≡ Less) (with_row n new es)
          → IsAscending (λ a b. key_order n a b ≡ Less) (match_ordering o (e ∷ with_row n new es) (new ∷ es) (new ∷ e ∷ es))
      go Less is more = (all-with_row (λ x. key_order n e x ≡ Less) es is up.0, more)
      go Equal is more = (all_weaker _ (λ x. key_order n new x ≡ Less) (λ x above. sym (total.congr e new x is) ∙ above) es up.0, up.1)
      go Greater is more =
          let low : key_order n new e ≡ Less = total.antisymm new e ∙ ap ordering_reverse is in
          ((low, all_weaker _ (λ x. key_order n new x ≡ Less) (λ x above. total.trans new e x low above) es up.0), up)

-- the rows with the key go out, and the new one goes in
pub stores_put : (n width : ℕ) (new : Row) (stored rows : List Row) → length (drop 1 new) ≡ width → IsTrue (is_int (rowid new))
    → is_taken (filter (λ r. not (has_key n (drop 1 new) (drop 1 r))) stored) new ≡ false → Stores n width stored rows
    → Stores n width (put_row new (filter (λ r. not (has_key n (drop 1 new) (drop 1 r))) stored)) (with_row n (drop 1 new) rows)
stores_put n width new stored rows wide keyed free h =
    let left = stores_filter n width (λ e. not (has_key n (drop 1 new) e)) stored rows h in record {
      rising = rising-with_row n (drop 1 new) rows h.rising;
      whole = all-with_row n (drop 1 new) _ rows wide h.whole;
      same = IsPermutation-trans _ _ _ (IsPermutation-sym _ _ (with_row_swaps n (drop 1 new) rows h.rising)) (IsPermutation-trans _ _ _ (IsPermutation-cons (drop 1 new) _ _ left.same) (IsPermutation-map (drop 1) _ _ (put_row_adds new _ free)));
      listed = IsTable-put_row new _ left.listed;
      numbered = all-put_row _ new _ keyed left.numbered;
    }
