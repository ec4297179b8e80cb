-- What is stored reads back as the rows that a table holds.
use Rattle.std.proofs.Common.{◌≡◌, ℕ, ◌+◌, false, List, [], ◌∷◌, map, drop, length, get_or, arith, refl, sym, ap, ap₂, ◌∙◌, Less, is_eq, is_lt, IsPermutation, IsSorted}
use Rattle.adr_sql.proofs.Common.{ordering_reverse, IsPermutation-refl, IsPermutation-sym, IsPermutation-cons, IsPermutation-middle, IsPermutation-trans, Row, Trees, IsAscending, ascending-get_or, ascending_weaker, all-permutation, along_permutation, Table}
use Rattle.sqlite_keyed.proofs.SortLemmas.{sorted_is-sort_by}
use Rattle.adr_sql.specs.Keys.{key_order}
use Rattle.adr_sql.specs.Contents.{Contents, Stores, StoresEach}
use Rattle.adr_sql.specs.Stored.{rows_stored, contents_in}
use Rattle.adr_sql.proofs.Keys.{turned_tie}
use Rattle.adr_sql.proofs.Rows.{key_order_total}

-- what holds of any two elements, whichever stands first, holds of them in each order of the list
module _ {X : Type 0} (R : X → X → Type 0) (turned : (a b : X) → R a b → R b a) where
  abbrev Along : List X → List X → Type 0
  Along xs ys = IsPermutation xs ys × (IsAscending R xs → IsAscending R ys)

  ascending_along : (xs ys : List X) → IsPermutation xs ys → Along xs ys
  ascending_along = along_permutation Along
      (λ xs. (IsPermutation-refl xs, λ up. up))
      (λ x xs ys h. (IsPermutation-cons x xs ys h.0, λ up. (all-permutation (R x) xs ys h.0 up.0, h.1 up.1)))
      (λ x y xs. (IsPermutation-middle (x ∷ []) y xs, λ up. ((turned x y up.0.0, up.1.0), (up.0.1, up.1.1))))
      (λ xs ys zs p q. (IsPermutation-trans xs ys zs p.0 q.0, λ up. q.1 (p.1 up)))

module _ (n : ℕ) where
  abbrev IsApart : Row → Row → Type 0
  IsApart a b = is_eq (key_order n a b) ≡ false

  apart_turned : (a b : Row) → IsApart a b → IsApart b a
  apart_turned a b h = ap is_eq ((key_order_total n).antisymm b a) ∙ turned_tie (key_order n a b) ∙ h

  rising_sorted : (rows : List Row) → IsAscending (λ a b. key_order n a b ≡ Less) rows → IsSorted (key_order n) rows
  rising_sorted rows up k d low within =
      ap is_lt ((key_order_total n).antisymm (get_or rows (k + 1) d) (get_or rows k d) ∙ ap ordering_reverse (ascending-get_or (λ a b. key_order n a b ≡ Less) rows k (k + 1) d up (omega arith) within))

  -- no two rows have one key, so the rows that are stored have one order
  pub stored_again : (width : ℕ) (stored rows : List Row) → Stores n width stored rows → rows_stored n stored ≡ rows
  stored_again width stored rows h =
      let apart = ascending_weaker (λ a b. key_order n a b ≡ Less) IsApart (λ a b low. ap is_eq low) rows h.rising in
      let apart_stored = (ascending_along IsApart apart_turned rows (map (drop 1) stored) h.same).1 apart in
      sym (sorted_is-sort_by (key_order n) (key_order_total n) (map (drop 1) stored) rows apart_stored (IsPermutation-sym rows (map (drop 1) stored) h.same) (rising_sorted rows h.rising))

pub contents_again : (ts : List Table) (trees : Trees) (all : Contents) → StoresEach ts trees all → contents_in ts trees ≡ all
contents_again [] trees [] h = refl
contents_again [] trees (rows ∷ all) h = absurd h
contents_again (t ∷ ts) trees [] h = absurd h
contents_again (t ∷ ts) trees (rows ∷ all) h = ap₂ ◌∷◌ (stored_again (length t.primary) (length t.columns) (trees t.tree) rows h.0) (contents_again ts trees all h.1)
