-- Rows by number: those of some numbers among all.
use Rattle.std.proofs.Common.{◌≡◌, ℕ, Bool, true, false, cond, List, [], ◌∷◌, ◌++◌, map, filter, Option, Some, None, Less, refl, sym, ap, ap₂, ◌∙◌, arith}
use Rattle.std.specs.Prelude.{option_map}
use Rattle.std.specs.List.{cons_option, filter_map, AllByRecursion}
use Rattle.std.specs.Option.{option_to_list}
use Rattle.std.specs.Ordering.{nat_cmp, is_eq}
use Rattle.std.proofs.lemmas.Bool.Decides.{nat_tests}
use Rattle.std.proofs.lemmas.List.Elements.{filter_map-append}
use Rattle.std.proofs.lemmas.Cmp.{nat_cmp_total, tied_itself}
use Rattle.adr_db.proofs.Common.{IsAscending, at}

-- numbers of which one stands before the other
behind : (n m : ℕ) → nat_cmp n m ≡ Less → is_eq (nat_cmp m n) ≡ false
behind n m is = grind (arith, nat_tests)

module _ {V : Type 0} where
  -- rows that stand behind another are found behind it
  later : (e : ℕ × V) (all es : List (ℕ × V)) → AllByRecursion (λ x. nat_cmp e.0 x.0 ≡ Less) es → AllByRecursion (λ x. at nat_cmp x.0 all ≡ Some x.1) es → AllByRecursion (λ x. at nat_cmp x.0 (e ∷ all) ≡ Some x.1) es
  later e all [] rest found = tt
  later e all (x ∷ es) rest found = (rw (behind e.0 x.0 rest.0) found.0, later e all es rest.1 found.1)

  each_found : (es : List (ℕ × V)) → IsAscending (λ a b. nat_cmp a.0 b.0 ≡ Less) es → AllByRecursion (λ x. at nat_cmp x.0 es ≡ Some x.1) es
  each_found [] up = tt
  each_found (e ∷ es) up = (rw (ap is_eq (tied_itself nat_cmp_total e.0)) refl, later e es es up.0 (each_found es up.1))

  module _ {Y : Type 0} (tell : ℕ × V → Y) (passes : ℕ × V → Bool) where
    by_numbers : (all es : List (ℕ × V)) → AllByRecursion (λ x. at nat_cmp x.0 all ≡ Some x.1) es → filter_map (λ n. option_map (λ v. tell (n, v)) (at nat_cmp n all)) (map (λ e. e.0) (filter passes es)) ≡ map tell (filter passes es)
    by_numbers all [] found = refl
    by_numbers all (e ∷ es) found = by (passes e) (by_numbers all es found.1)
      where
        by : (b : Bool) → filter_map (λ n. option_map (λ v. tell (n, v)) (at nat_cmp n all)) (map (λ e. e.0) (filter passes es)) ≡ map tell (filter passes es) → filter_map (λ n. option_map (λ v. tell (n, v)) (at nat_cmp n all)) (map (λ e. e.0) (cond b (e ∷ filter passes es) (filter passes es))) ≡ map tell (cond b (e ∷ filter passes es) (filter passes es))
        by true rest = rw found.0 (ap (λ rows. tell e ∷ rows) rest)
        by false rest = rest

    -- the rows of the numbers of those that pass are those that pass
    pub rows_of_numbers : (es : List (ℕ × V)) → IsAscending (λ a b. nat_cmp a.0 b.0 ≡ Less) es → filter_map (λ n. option_map (λ v. tell (n, v)) (at nat_cmp n es)) (map (λ e. e.0) (filter passes es)) ≡ map tell (filter passes es)
    rows_of_numbers es up = by_numbers es es (each_found es up)

-- one more is pushed to what was made of those so far, where something is made of it
pub pushed : {X Y : Type 0} (h : X → Option Y) (xs : List X) (x : X) (before after : List Y) (made : Option Y) → after ≡ before ++ option_to_list made → before ≡ filter_map h xs → made ≡ h x → after ≡ filter_map h (xs ++ x ∷ [])
pushed h xs x before after made is so_far one = is ∙ ap₂ (λ ys o. ys ++ option_to_list o) so_far one ∙ ap (λ ys. filter_map h xs ++ ys) (alone (h x)) ∙ sym (filter_map-append h xs (x ∷ []))
  where
    alone : {Y : Type 0} (o : Option Y) → option_to_list o ≡ cons_option o []
    alone None = refl
    alone (Some y) = refl
