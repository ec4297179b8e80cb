-- What is kept at numbers, and pages of it.
use Rattle.std.proofs.Common.{◌≡◌, ℕ, zero, suc, ◌+◌, ◌<◌, ◌≤◌, Bool, true, false, cond, List, [], ◌∷◌, ◌++◌, length, get_or, map, filter, drop, Option, Some, None, Less, refl, sym, ap, ap₂, subst, ◌∙◌, arith}
use Rattle.std.specs.Prelude.{◌==◌, option_map, option_to_list}
use Rattle.std.specs.List.{AllByRecursion, cons_option, filter_map}
use Rattle.std.specs.Ordering.{is_eq}
use Rattle.std.proofs.lemmas.Bool.{eqb-true}
use Rattle.std.proofs.lemmas.Bool.Decides.{nat_tests}
use Rattle.std.proofs.lemmas.List.{drop_more, length-map, map-id}
use Rattle.std.proofs.lemmas.List.Elements.{filter-append}
use Rattle.adr_db.proofs.Common.{IsAscending, at, nat_cmp}
use Rattle.adr_db.specs.Kept.{Kept}
use Rattle.adr_answers.proofs.KeyLemmas.{rows_of_numbers}
use Rattle.adr_lent.specs.Pages.{IsCut}
use Rattle.adr_site_pages.specs.ByNumbers.{AtNumber, entries_at, entry_at}

-- ---- what is read at one number more

-- one more, where there is one, before others
one_before : {X : Type 0} (xs : List X) (o : Option X) (rest : List X) → (xs ++ option_to_list o) ++ rest ≡ xs ++ cons_option o rest
one_before [] None rest = refl
one_before [] (Some y) rest = refl
one_before (x ∷ xs) o rest = ap (λ l. x ∷ l) (one_before xs o rest)

-- it stands behind what was read so far, and before what is left
pub one_read : {T : Type 0} (found : AtNumber T) (kept : Kept) (ns : List ℕ) (i n : ℕ) (seen all : List (ℕ × T)) → i < length ns → n ≡ get_or ns i n → seen ++ entries_at found (drop i ns) kept ≡ all
    → (seen ++ option_to_list (entry_at found n kept)) ++ entries_at found (drop (i + 1) ns) kept ≡ all
one_read found kept ns i n seen all within is so_far =
    let left : drop i ns ≡ n ∷ drop (i + 1) ns = drop_more ns i n within ∙ λ j. sym is j ∷ drop (i + 1) ns in
    one_before seen (entry_at found n kept) (entries_at found (drop (i + 1) ns) kept) ∙ ap (λ ns. seen ++ entries_at found ns kept) (sym left) ∙ so_far

-- and the page is cut of both
pub cut_more : {X : Type 0} (wanted : X → Bool) (seen more found : List X) (skip left : ℕ) → IsCut skip (filter wanted seen ++ filter wanted more) found left → IsCut skip (filter wanted (seen ++ more)) found left
cut_more wanted seen more found skip left cut = subst (λ es. IsCut skip es found left) (sym (filter-append wanted seen more)) cut

-- all pass
pub all_pass : {X : Type 0} (xs : List X) → filter (λ x. true) xs ≡ xs
all_pass [] = refl
all_pass (x ∷ xs) = ap (λ rest. x ∷ rest) (all_pass xs)

-- ---- where something is made of each, what is made behind the first ones stands behind what is made of them

module _ {X Y : Type 0} (h : X → Option Y) where
  no_longer : (xs : List X) → length (filter_map h xs) ≤ length xs
  no_longer [] = omega arith
  no_longer (x ∷ xs) = by (h x) (no_longer xs)
    where
      by : (o : Option Y) → length (filter_map h xs) ≤ length xs → length (cons_option o (filter_map h xs)) ≤ suc (length xs)
      by None rest = omega (arith, rest)
      by (Some y) rest = omega (arith, rest)

  pub made_behind : (k : ℕ) (xs : List X) → length (filter_map h xs) ≡ length xs → filter_map h (drop k xs) ≡ drop k (filter_map h xs)
  made_behind zero xs each = refl
  made_behind (suc k) [] each = refl
  made_behind (suc k) (x ∷ xs) each = by (h x) each (made_behind k xs)
    where
      by : (o : Option Y) → length (cons_option o (filter_map h xs)) ≡ suc (length xs) → (length (filter_map h xs) ≡ length xs → filter_map h (drop k xs) ≡ drop k (filter_map h xs)) → filter_map h (drop k xs) ≡ drop (suc k) (cons_option o (filter_map h xs))
      by None each rest = absurd (let few = no_longer xs in omega (arith, each, few))
      by (Some y) each rest = rest (omega (arith, each))

-- ---- the rows of some numbers

module _ {V : Type 0} (passes : ℕ × V → Bool) (es : List (ℕ × V)) (up : IsAscending (λ a b. nat_cmp a.0 b.0 ≡ Less) es) where
  abbrev one_at : ℕ → Option (ℕ × V)
  one_at n = option_map (λ v. (n, v)) (at nat_cmp n es)

  abbrev numbers : List ℕ
  numbers = map (λ e. e.0) (filter passes es)

  -- at the numbers of those that pass are those
  pub passing_at : filter_map one_at numbers ≡ filter passes es
  passing_at = rows_of_numbers (λ (e : ℕ × V). e) passes es up ∙ map-id (filter passes es)

  -- and so behind the first ones
  pub passing_behind : (k : ℕ) → filter_map one_at (drop k numbers) ≡ drop k (filter passes es)
  passing_behind k = made_behind one_at k numbers (ap length passing_at ∙ sym (length-map (filter passes es) (λ (e : ℕ × V). e.0))) ∙ ap (drop k) passing_at

-- ---- the row of one number

-- numbers that are one, and numbers of which one stands before the other
alike : (n m : ℕ) → (m == n) ≡ true → is_eq (nat_cmp n m) ≡ true
alike n m is = grind (arith, nat_tests)

unlike : (n m : ℕ) → (m == n) ≡ false → is_eq (nat_cmp n m) ≡ false
unlike n m is = grind (arith, nat_tests)

before : (n m : ℕ) → nat_cmp n m ≡ Less → (m == n) ≡ false
before n m is = grind (arith, nat_tests)

module _ {V : Type 0} where
  -- none of those behind a number has it
  none_has : (n : ℕ) (es : List (ℕ × V)) → AllByRecursion (λ e. nat_cmp n e.0 ≡ Less) es → filter (λ e. e.0 == n) es ≡ []
  none_has n [] h = refl
  none_has n (e ∷ es) h = rw (before n e.0 h.0) (none_has n es h.1)

  -- the row of a number is the one that has it
  pub one_row : (n : ℕ) (es : List (ℕ × V)) → IsAscending (λ a b. nat_cmp a.0 b.0 ≡ Less) es → filter (λ e. e.0 == n) es ≡ option_to_list (option_map (λ v. (n, v)) (at nat_cmp n es))
  one_row n [] up = refl
  one_row n (e ∷ es) up = by (e.0 == n) refl (one_row n es up.1)
    where
      by : (b : Bool) → (e.0 == n) ≡ b → filter (λ x. x.0 == n) es ≡ option_to_list (option_map (λ v. (n, v)) (at nat_cmp n es)) → cond b (e ∷ filter (λ x. x.0 == n) es) (filter (λ x. x.0 == n) es) ≡ option_to_list (option_map (λ v. (n, v)) (cond (is_eq (nat_cmp n e.0)) (Some e.1) (at nat_cmp n es)))
      by true is rest =
          let same : e.0 ≡ n = eqb-true e.0 n is in
          rw (alike n e.0 is) (ap₂ ◌∷◌ (λ i. (same i, e.1)) (ap (λ m. filter (λ x. x.0 == m) es) (sym same) ∙ none_has e.0 es up.0))
      by false is rest = rw (unlike n e.0 is) rest
