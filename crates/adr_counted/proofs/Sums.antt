-- What belongs to each resource of a ven is, taken together, what belongs to one of them.
use Rattle.std.proofs.Common.{◌≡◌, ◌+◌, ℕ, Bool, true, false, cond, Some, List, [], ◌∷◌, length, map, filter, refl, sym, ap, ap₂, ◌∙◌, arith, eqb-true, eq-eqb, Less}
use Rattle.std.specs.Prelude.{◌==◌}
use Rattle.std.specs.List.{sum_by}
use Rattle.std.proofs.lemmas.List.Sums.{sum_by-cons}
use Rattle.adr_db.proofs.Common.{AllByRecursion, option_map_or, is_eq, nat_cmp, nat_cmp_total, tied_itself, same_bool, ties, at, is_of_ven, Resource}
use Rattle.adr_db.proofs.Rows.{number_same_is}
use Rattle.adr_db.proofs.Entries.{NumbersRise}

-- ---- two tests, of which at most one passes

turned : (a b c k l m : ℕ) → a + b ≡ c → k + l ≡ m → (a + k) + (b + l) ≡ c + m
turned a b c k l m one more = omega (arith, one, more)

module _ {X : Type 0} where
  length_more : (b : Bool) (x : X) (xs : List X) → length (cond b (x ∷ xs) xs) ≡ cond b 1 0 + length xs
  length_more true x xs = omega arith
  length_more false x xs = omega arith

  pub length_apart : (p q r : X → Bool) → ((x : X) → cond (p x) 1 0 + cond (q x) 1 0 ≡ cond (r x) 1 0) → (xs : List X) → length (filter p xs) + length (filter q xs) ≡ length (filter r xs)
  length_apart p q r one [] = refl
  length_apart p q r one (x ∷ xs) =
      ap₂ ◌+◌ (length_more (p x) x (filter p xs)) (length_more (q x) x (filter q xs))
      ∙ turned (cond (p x) 1 0) (cond (q x) 1 0) (cond (r x) 1 0) (length (filter p xs)) (length (filter q xs)) (length (filter r xs)) (one x) (length_apart p q r one xs) ∙ sym (length_more (r x) x (filter r xs))

  none_pass : (xs : List X) → length (filter (λ x. false) xs) ≡ 0
  none_pass [] = refl
  none_pass (x ∷ xs) = none_pass xs

-- ---- the resources of a ven

tied : (m n : ℕ) → is_eq (nat_cmp m n) ≡ (m == n)
tied m n = same_bool _ _ (λ tie. eq-eqb m n (number_same_is m n (ties _ tie))) (λ same. ap is_eq (ap (λ k. nat_cmp k n) (eqb-true m n same) ∙ tied_itself nat_cmp_total n))

module _ (ven : ℕ) (e : ℕ × Resource) (es : List (ℕ × Resource)) (below : AllByRecursion (λ (x : ℕ × Resource). nat_cmp e.0 x.0 ≡ Less) es) where
  -- a number is that of the first, or of a later one, of which it is not
  none_later : (es : List (ℕ × Resource)) → AllByRecursion (λ (x : ℕ × Resource). nat_cmp e.0 x.0 ≡ Less) es → is_of_ven ven es e.0 ≡ false
  none_later [] below = refl
  none_later (x ∷ xs) below = ap (λ o. option_map_or (λ (r : Resource). r.ven == ven) (cond (is_eq o) (Some x.1) (at nat_cmp e.0 xs)) false) below.0 ∙ none_later xs below.1

  later : (m : ℕ) → (m == e.0) ≡ true → is_of_ven ven es m ≡ false
  later m is = ap (is_of_ven ven es) (eqb-true m e.0 is) ∙ none_later es below

  of_first : (m : ℕ) → is_of_ven ven (e ∷ es) m ≡ cond (m == e.0) (e.1.ven == ven) (is_of_ven ven es m)
  of_first m = ap (λ b. option_map_or (λ (r : Resource). r.ven == ven) (cond b (Some e.1) (at nat_cmp m es)) false) (tied m e.0) ∙ by (m == e.0)
    where
      by : (b : Bool) → option_map_or (λ (r : Resource). r.ven == ven) (cond b (Some e.1) (at nat_cmp m es)) false ≡ cond b (e.1.ven == ven) (is_of_ven ven es m)
      by true = refl
      by false = refl

  -- where the first is of the ven, either is
  pub one_more : (e.1.ven == ven) ≡ true → (m : ℕ) → cond (m == e.0) 1 0 + cond (is_of_ven ven es m) 1 0 ≡ cond (is_of_ven ven (e ∷ es) m) 1 0
  one_more is m = by (m == e.0) refl ∙ ap (λ b. cond b 1 0) (sym (of_first m ∙ ap (λ b. cond (m == e.0) b (is_of_ven ven es m)) is))
    where
      by : (b : Bool) → (m == e.0) ≡ b → cond b 1 0 + cond (is_of_ven ven es m) 1 0 ≡ cond (cond b true (is_of_ven ven es m)) 1 0
      by true same = ap (λ b. 1 + cond b 1 0) (later m same)
      by false same = omega arith

  -- where it is not, the later ones are as they were
  pub as_before : (e.1.ven == ven) ≡ false → (m : ℕ) → is_of_ven ven es m ≡ is_of_ven ven (e ∷ es) m
  as_before is m = by (m == e.0) refl ∙ sym (of_first m ∙ ap (λ b. cond (m == e.0) b (is_of_ven ven es m)) is)
    where
      by : (b : Bool) → (m == e.0) ≡ b → is_of_ven ven es m ≡ cond b false (is_of_ven ven es m)
      by true same = later m same
      by false same = refl

module _ {X : Type 0} (key : X → ℕ) (ven : ℕ) (xs : List X) where
  abbrev belongs : ℕ → ℕ
  belongs n = length (filter (λ x. key x == n) xs)

  pub sum_of_ven : (rs : List (ℕ × Resource)) → NumbersRise rs → sum_by belongs (map (λ r. r.0) (filter (λ r. r.1.ven == ven) rs)) ≡ length (filter (λ x. is_of_ven ven rs (key x)) xs)
  sum_of_ven [] up = sym (none_pass xs)
  sum_of_ven (e ∷ es) up = by (e.1.ven == ven) refl (sum_of_ven es up.1)
    where
      of_rest : List ℕ
      of_rest = map (λ r. r.0) (filter (λ r. r.1.ven == ven) es)

      by : (b : Bool) → (e.1.ven == ven) ≡ b → sum_by belongs of_rest ≡ length (filter (λ x. is_of_ven ven es (key x)) xs)
          → sum_by belongs (map (λ (r : ℕ × Resource). r.0) (cond b (e ∷ filter (λ r. r.1.ven == ven) es) (filter (λ r. r.1.ven == ven) es))) ≡ length (filter (λ x. is_of_ven ven (e ∷ es) (key x)) xs)
      by true is more =
          sum_by-cons belongs e.0 of_rest ∙ ap (λ n. belongs e.0 + n) more
          ∙ length_apart (λ x. key x == e.0) (λ x. is_of_ven ven es (key x)) (λ x. is_of_ven ven (e ∷ es) (key x)) (λ x. one_more ven e es up.0 is (key x)) xs
      by false is more = more ∙ ap (λ (p : X → Bool). length (filter p xs)) (λ i x. as_before ven e es up.0 is (key x) i)
