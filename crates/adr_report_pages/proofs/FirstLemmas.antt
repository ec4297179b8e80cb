-- The first rows of a map that pass tests: so many of each test have so many of all.
use Rattle.std.proofs.Common.{◌≡◌, ℕ, suc, zero, Bool, true, false, ◌&&◌, ◌||◌, cond, List, [], ◌∷◌, filter, take, length, Option, Some, None, Less, refl, sym, ap, ◌∙◌, arith}
use Rattle.std.specs.Prelude.{◌==◌}
use Rattle.std.specs.Ordering.{nat_cmp}
use Rattle.std.proofs.lemmas.Bool.Decides.{nat_tests}
use Rattle.std.proofs.lemmas.List.{take_all, take-take}
use Rattle.std.proofs.lemmas.List.Sums.{length-filter, count_by-le-length}
use Rattle.adr_db.proofs.Common.{IsAscending, and_true}
use Rattle.adr_db.specs.Kept.{at_most}
use Rattle.adr_db.proofs.Unions.{Behind, differ, still_behind}

itself : (n : ℕ) → (n == n) ≡ true
itself n = grind (arith, nat_tests)

module _ {V : Type 0} where
  abbrev pub Rises : List (ℕ × V) → Type 0
  Rises rows = IsAscending (λ a b. nat_cmp a.0 b.0 ≡ Less) rows

  -- ---- so many rows that pass are those that pass up to a number

  -- behind a number it makes no difference whether that passes too
  let_pass : (passes : ℕ × V → Bool) (up_to : ℕ → Bool) (n : ℕ) (rows : List (ℕ × V)) → Behind n rows → filter (λ r. passes r && (r.0 == n || up_to r.0)) rows ≡ filter (λ r. passes r && up_to r.0) rows
  let_pass passes up_to n [] h = refl
  let_pass passes up_to n (r ∷ rows) h =
      let other : (r.0 == n) ≡ false = grind (arith, nat_tests, h.0) in
      let same : (passes r && (r.0 == n || up_to r.0)) ≡ (passes r && up_to r.0) = ap (λ b. passes r && (b || up_to r.0)) other in
      ap (λ b. cond b (r ∷ filter (λ r. passes r && (r.0 == n || up_to r.0)) rows) (filter (λ r. passes r && (r.0 == n || up_to r.0)) rows)) same
      ∙ ap (λ l. cond (passes r && up_to r.0) (r ∷ l) l) (let_pass passes up_to n rows h.1)

  none_pass : (passes : ℕ × V → Bool) (rows : List (ℕ × V)) → filter (λ r. passes r && false) rows ≡ []
  none_pass passes [] = refl
  none_pass passes (r ∷ rows) = elim (passes r) as (λ b. cond (b && false) (r ∷ filter (λ r. passes r && false) rows) (filter (λ r. passes r && false) rows) ≡ []) [ true ↦ none_pass passes rows | false ↦ none_pass passes rows ]

  taken : (passes : ℕ × V → Bool) (m : ℕ) (rows : List (ℕ × V)) → Rises rows → (up_to : ℕ → Bool) × (take m (filter passes rows) ≡ filter (λ r. passes r && up_to r.0) rows)
  taken passes zero rows up = (λ n. false, sym (none_pass passes rows))
  taken passes (suc k) [] up = (λ n. false, refl)
  taken passes (suc k) (r ∷ rows) up = by (passes r) refl (λ j. taken passes j rows up.1)
    where
      by : (b : Bool) → passes r ≡ b → ((j : ℕ) → (up_to : ℕ → Bool) × (take j (filter passes rows) ≡ filter (λ r. passes r && up_to r.0) rows))
          → (up_to : ℕ → Bool) × (take (suc k) (filter passes (r ∷ rows)) ≡ filter (λ r. passes r && up_to r.0) (r ∷ rows))
      by true is others =
          let rest = others k in
          let up_to : ℕ → Bool = λ n. n == r.0 || rest.0 n in
          let own : (r.0 == r.0) ≡ true = itself r.0 in
          let told : take (suc k) (filter passes (r ∷ rows)) ≡ filter (λ r. passes r && up_to r.0) (r ∷ rows) = rw (is, own) (ap (λ l. r ∷ l) (rest.1 ∙ sym (let_pass passes rest.0 r.0 rows up.0))) in
          (up_to, told)
      by false is others =
          let rest = others (suc k) in
          let told : take (suc k) (filter passes (r ∷ rows)) ≡ filter (λ r. passes r && rest.0 r.0) (r ∷ rows) = rw is (rest.1) in
          (rest.0, told)

  pub some_first : (passes : ℕ × V → Bool) (most : Option ℕ) (rows : List (ℕ × V)) → Rises rows → (up_to : ℕ → Bool) × (at_most most (filter passes rows) ≡ filter (λ r. passes r && up_to r.0) rows)
  some_first passes None rows up = (λ n. true, λ i. filter (λ r. sym (and_true (passes r)) i) rows)
  some_first passes (Some m) rows up = taken passes m rows up

  -- ---- so many of each of two tests have so many of both

  -- no row behind a number is of it
  not_behind : (r : ℕ × V) (rows : List (ℕ × V)) → Behind r.0 rows → (k : ℕ) (l : List (ℕ × V)) → r ∷ l ≡ take (suc k) rows → true ≡ false
  not_behind r [] h k l is = absurd cc
  not_behind r (x ∷ rows) h k l is =
      let one : r ≡ x = cc in
      let other : (r.0 == r.0) ≡ false = ap (λ (y : ℕ × V). r.0 == y.0) one ∙ differ r.0 x.0 h.0 in
      sym (itself r.0) ∙ other

  -- where so many of one test are those of another, the first row passes both or none
  alike : (k : ℕ) (p q : ℕ × V → Bool) (r : ℕ × V) (rows : List (ℕ × V)) → Behind r.0 rows → take (suc k) (filter p (r ∷ rows)) ≡ take (suc k) (filter q (r ∷ rows)) → p r ≡ q r
  alike k p q r rows behind same = by (p r) (q r) same
    where
      by : (b c : Bool) → take (suc k) (cond b (r ∷ filter p rows) (filter p rows)) ≡ take (suc k) (cond c (r ∷ filter q rows) (filter q rows)) → b ≡ c
      by true true h = refl
      by true false h = not_behind r (filter q rows) (still_behind r.0 q rows behind) k (take k (filter p rows)) h
      by false true h = sym (not_behind r (filter p rows) (still_behind r.0 p rows behind) k (take k (filter q rows)) (sym h))
      by false false h = refl

  -- so it is of the rows behind
  fewer : (k : ℕ) (xs ys : List (ℕ × V)) → take (suc k) xs ≡ take (suc k) ys → take k xs ≡ take k ys
  fewer k xs ys h = sym (take-take k (suc k) xs (omega arith)) ∙ ap (take k) h ∙ take-take k (suc k) ys (omega arith)

  rest_of : (k : ℕ) (r : ℕ × V) (xs ys : List (ℕ × V)) (b : Bool) → take (suc k) (cond b (r ∷ xs) xs) ≡ take (suc k) (cond b (r ∷ ys) ys) → take k xs ≡ take k ys
  rest_of k r xs ys true h = cc
  rest_of k r xs ys false h = fewer k xs ys h

  -- the rows that pass one test or another
  abbrev either : (p q : ℕ × V → Bool) → List (ℕ × V) → List (ℕ × V)
  either p q rows = filter (λ r. p r || q r) rows

  both_taken : (m : ℕ) (p q p' q' : ℕ × V → Bool) (rows : List (ℕ × V)) → Rises rows → take m (filter p rows) ≡ take m (filter p' rows) → take m (filter q rows) ≡ take m (filter q' rows)
      → take m (filter (λ r. p r || q r) rows) ≡ take m (filter (λ r. p' r || q' r) rows)
  both_taken zero p q p' q' rows up a b = refl
  both_taken (suc k) p q p' q' [] up a b = refl
  both_taken (suc k) p q p' q' (r ∷ rows) up a b =
      let ps : p r ≡ p' r = alike k p p' r rows up.0 a in
      let qs : q r ≡ q' r = alike k q q' r rows up.0 b in
      ap (λ c. take (suc k) (cond (c || q r) (r ∷ either p q rows) (either p q rows))) ps
      ∙ ap (λ c. take (suc k) (cond (p' r || c) (r ∷ either p q rows) (either p q rows))) qs
      ∙ by (p' r) (q' r) (λ j. both_taken j p q p' q' rows up.1)
      (ap (λ c. take (suc k) (cond c (r ∷ filter p rows) (filter p rows))) (sym ps) ∙ a) (ap (λ c. take (suc k) (cond c (r ∷ filter q rows) (filter q rows))) (sym qs) ∙ b)
    where
      by : (c d : Bool) → ((j : ℕ) → take j (filter p rows) ≡ take j (filter p' rows) → take j (filter q rows) ≡ take j (filter q' rows) → take j (either p q rows) ≡ take j (either p' q' rows))
          → take (suc k) (cond c (r ∷ filter p rows) (filter p rows)) ≡ take (suc k) (cond c (r ∷ filter p' rows) (filter p' rows))
          → take (suc k) (cond d (r ∷ filter q rows) (filter q rows)) ≡ take (suc k) (cond d (r ∷ filter q' rows) (filter q' rows))
          → take (suc k) (cond (c || d) (r ∷ either p q rows) (either p q rows)) ≡ take (suc k) (cond (c || d) (r ∷ either p' q' rows) (either p' q' rows))
      by true true others h g = ap (λ l. r ∷ l) (others k (rest_of k r _ _ true h) (rest_of k r _ _ true g))
      by true false others h g = ap (λ l. r ∷ l) (others k (rest_of k r _ _ true h) (rest_of k r _ _ false g))
      by false true others h g = ap (λ l. r ∷ l) (others k (rest_of k r _ _ false h) (rest_of k r _ _ true g))
      by false false others h g = others (suc k) h g

  pub both_first : (most : Option ℕ) (p q p' q' : ℕ × V → Bool) (rows : List (ℕ × V)) → Rises rows → at_most most (filter p rows) ≡ at_most most (filter p' rows) → at_most most (filter q rows) ≡ at_most most (filter q' rows)
      → at_most most (filter (λ r. p r || q r) rows) ≡ at_most most (filter (λ r. p' r || q' r) rows)
  both_first (Some m) p q p' q' rows up a b = both_taken m p q p' q' rows up a b
  both_first None p q p' q' rows up a b =
      let all : (f : ℕ × V → Bool) → take (length rows) (filter f rows) ≡ filter f rows = λ f. take_all (length rows) (filter f rows) (omega (arith, length-filter f rows, count_by-le-length f rows)) in
      sym (all (λ r. p r || q r)) ∙ both_taken (length rows) p q p' q' rows up (ap (take (length rows)) a) (ap (take (length rows)) b) ∙ all (λ r. p' r || q' r)

-- the first of the first are those
pub first_again : {X : Type 0} (most : Option ℕ) (xs : List X) → at_most most (at_most most xs) ≡ at_most most xs
first_again None xs = refl
first_again (Some m) xs = take-take m m xs (omega arith)
