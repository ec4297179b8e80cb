-- Rows of a map that are put into others of it.
use Rattle.std.proofs.Common.{◌≡◌, ℕ, Bool, true, false, cond, List, [], ◌∷◌, ◌++◌, map, filter, Option, Some, Less, Greater, refl, sym, ap, ◌∙◌, arith}
use Rattle.std.specs.Prelude.{◌==◌, ◌||◌}
use Rattle.std.specs.BTreeMap.{insert_entry}
use Rattle.std.specs.List.{AllByRecursion, cons_option, filter_map, list_any}
use Rattle.std.specs.Option.{option_map_or}
use Rattle.std.specs.Ordering.{nat_cmp, is_eq}
use Rattle.std.proofs.lemmas.Bool.{eqb-true}
use Rattle.std.proofs.lemmas.List.Folds.{list_any-append}
use Rattle.std.proofs.lemmas.Bool.Decides.{nat_tests}
use Rattle.std.proofs.lemmas.Cmp.{nat_cmp_total, tied_itself}
use Rattle.sqlite_trees.proofs.ListLemmas.{all-filter}
use Rattle.adr_db.proofs.Common.{IsAscending, at}
use Rattle.adr_state.specs.Keys.{with_rows}

above : (n m : ℕ) → nat_cmp n m ≡ Less → nat_cmp m n ≡ Greater
above n m is = grind (arith, nat_tests)

pub differ : (n m : ℕ) → nat_cmp n m ≡ Less → (n == m) ≡ false
differ n m is = grind (arith, nat_tests)

one_of : (n m : ℕ) → is_eq (nat_cmp n m) ≡ (n == m)
one_of n m = grind (arith, nat_tests)

module _ {V : Type 0} where
  abbrev pub Behind : ℕ → List (ℕ × V) → Type 0
  Behind k rows = AllByRecursion (λ r. nat_cmp k r.0 ≡ Less) rows

  -- those that are left of rows behind a number stand behind it
  pub still_behind : (k : ℕ) (passes : ℕ × V → Bool) (rows : List (ℕ × V)) → Behind k rows → Behind k (filter passes rows)
  still_behind k = all-filter (λ r. nat_cmp k r.0 ≡ Less)

  -- a row is put before those behind it
  put_before : (k : ℕ) (v : V) (rows : List (ℕ × V)) → Behind k rows → insert_entry nat_cmp rows k v ≡ (k, v) ∷ rows
  put_before k v [] h = refl
  put_before k v (r ∷ rows) h = rw h.0 refl

  -- and one that is there stays as it is
  put_again : (e : ℕ × V) (rows : List (ℕ × V)) → insert_entry nat_cmp (e ∷ rows) e.0 e.1 ≡ e ∷ rows
  put_again e rows = rw (tied_itself nat_cmp_total e.0) refl

  -- and rows behind the first leave that
  put_behind : (e : ℕ × V) (es rows : List (ℕ × V)) → Behind e.0 rows → with_rows nat_cmp (e ∷ es) rows ≡ e ∷ with_rows nat_cmp es rows
  put_behind e es [] h = refl
  put_behind e es (r ∷ rows) h = rw (above e.0 r.0 h.0) (put_behind e (insert_entry nat_cmp es r.0 r.1) rows h.1)

  module _ (p q : ℕ × V → Bool) where
    abbrev either : ℕ × V → Bool
    either e = p e || q e

    -- of a map, those that pass one test, and those that pass another
    pub both_put : (es : List (ℕ × V)) → IsAscending (λ a b. nat_cmp a.0 b.0 ≡ Less) es → with_rows nat_cmp (filter p es) (filter q es) ≡ filter either es
    both_put [] up = refl
    both_put (e ∷ es) up = by (p e) (q e) (both_put es up.1)
      where
        first : (rest : with_rows nat_cmp (filter p es) (filter q es) ≡ filter either es) → with_rows nat_cmp (e ∷ filter p es) (filter q es) ≡ e ∷ filter either es
        first rest = put_behind e (filter p es) (filter q es) (still_behind e.0 q es up.0) ∙ ap (λ rows. e ∷ rows) rest

        by : (b c : Bool) → with_rows nat_cmp (filter p es) (filter q es) ≡ filter either es → with_rows nat_cmp (cond b (e ∷ filter p es) (filter p es)) (cond c (e ∷ filter q es) (filter q es)) ≡ cond (b || c) (e ∷ filter either es) (filter either es)
        by true true rest = ap (λ rows. with_rows nat_cmp rows (filter q es)) (put_again e (filter p es)) ∙ first rest
        by true false rest = first rest
        by false true rest = ap (λ rows. with_rows nat_cmp rows (filter q es)) (put_before e.0 e.1 (filter p es) (still_behind e.0 p es up.0)) ∙ first rest
        by false false rest = rest

  -- no number behind is one
  none_is : (n : ℕ) (passes : ℕ × V → Bool) (es : List (ℕ × V)) → Behind n es → list_any (λ m. n == m) (map (λ e. e.0) (filter passes es)) ≡ false
  none_is n passes [] h = refl
  none_is n passes (e ∷ es) h = by (passes e) (none_is n passes es h.1)
    where
      other : (n == e.0) ≡ false
      other = differ n e.0 h.0

      by : (b : Bool) → list_any (λ m. n == m) (map (λ e. e.0) (filter passes es)) ≡ false → list_any (λ m. n == m) (map (λ e. e.0) (cond b (e ∷ filter passes es) (filter passes es))) ≡ false
      by true rest = rw other rest
      by false rest = rest

  module _ (passes : V → Bool) (n : ℕ) where
    abbrev of_row : ℕ × V → Bool
    of_row e = passes e.1

    -- a number is that of a row that passes where its row passes
    pub is_one_of : (es : List (ℕ × V)) → IsAscending (λ a b. nat_cmp a.0 b.0 ≡ Less) es → list_any (λ m. n == m) (map (λ e. e.0) (filter of_row es)) ≡ option_map_or passes (at nat_cmp n es) false
    is_one_of [] up = refl
    is_one_of (e ∷ es) up = by (passes e.1) (n == e.0) refl refl (one_of n e.0) (is_one_of es up.1)
      where
        by : (b c : Bool) → passes e.1 ≡ b → (n == e.0) ≡ c → is_eq (nat_cmp n e.0) ≡ (n == e.0) → list_any (λ m. n == m) (map (λ e. e.0) (filter of_row es)) ≡ option_map_or passes (at nat_cmp n es) false
            → list_any (λ m. n == m) (map (λ e. e.0) (cond b (e ∷ filter of_row es) (filter of_row es))) ≡ option_map_or passes (cond (is_eq (nat_cmp n e.0)) (Some e.1) (at nat_cmp n es)) false
        by true true passed same is rest = rw (is, same) (sym passed)
        by true false passed other is rest = rw (is, other) rest
        by false true fails same is rest = rw (is, same) (gone same ∙ sym fails)
          where
            gone : (n == e.0) ≡ true → list_any (λ m. n == m) (map (λ e. e.0) (filter of_row es)) ≡ false
            gone same = ap (λ k. list_any (λ m. k == m) (map (λ e. e.0) (filter of_row es))) (eqb-true n e.0 same) ∙ none_is e.0 of_row es up.0
        by false false fails other is rest = rw (is, other) rest

-- nothing more, and all
pub or_false : (b : Bool) → (b || false) ≡ b
or_false true = refl
or_false false = refl

pub or_true : (b : Bool) → (b || true) ≡ true
or_true true = refl
or_true false = refl

-- one of more
pub any_more : {X : Type 0} (f : X → Bool) (xs : List X) (x : X) → (list_any f xs || f x) ≡ list_any f (xs ++ x ∷ [])
any_more f xs x = sym (list_any-append f xs (x ∷ []) ∙ ap (λ b. list_any f xs || b) (or_false (f x)))

-- none passes
pub none_pass : {X : Type 0} (xs : List X) → filter (λ x. false) xs ≡ []
none_pass [] = refl
none_pass (x ∷ xs) = none_pass xs

-- what is made of what was made of each
pub made_of_made : {X Y Z : Type 0} (h : Y → Option Z) (f : X → Y) (xs : List X) → filter_map h (map f xs) ≡ filter_map (λ x. h (f x)) xs
made_of_made h f [] = refl
made_of_made h f (x ∷ xs) = ap (cons_option (h (f x))) (made_of_made h f xs)
