-- Whether a name is taken, by the numbers that have it.
use Rattle.std.proofs.lemmas.Bool.{false_from_ne_true}
use Rattle.std.proofs.Common.{◌≡◌, ◌==◌, ◌&&◌, ◌||◌, suc, arith, eqb-true, ℕ, Bool, true, false, not, cond, List, [], ◌∷◌, map, filter, length, refl, ap, ◌∙◌}
use Rattle.adr_db.proofs.Common.{list_any, is_taken, is_taken_by_another}
use Rattle.std.specs.Prelude.{bytes_eq}

module _ {V : Type 0} (p : ℕ × V → Bool) where
  -- the numbers of the entries that pass
  abbrev numbers : List (ℕ × V) → List ℕ
  numbers es = map (λ e. e.0) (filter p es)

  more : (n : ℕ) → not (suc n == 0) ≡ true
  more n = ap not (false_from_ne_true _ (λ e. let same : suc n ≡ 0 = eqb-true (suc n) 0 e in omega arith))

  -- one is there where one passes
  pub some_there : (es : List (ℕ × V)) → not (length (numbers es) == 0) ≡ list_any p es
  some_there [] = refl
  some_there (e ∷ es) = elim (p e) as (λ b. not (length (map (λ (d : ℕ × V). d.0) (cond b (e ∷ filter p es) (filter p es))) == 0) ≡ (b || list_any p es)) [ true ↦ more (length (numbers es)) | false ↦ some_there es ]

  -- and one that has a property, where one passes that has it
  pub some_such_there : (q : ℕ → Bool) (es : List (ℕ × V)) → list_any q (numbers es) ≡ list_any (λ e. q e.0 && p e) es
  some_such_there q [] = refl
  some_such_there q (e ∷ es) = go (q e.0) (p e) refl (some_such_there q es)
    where
      go : (b c : Bool) → q e.0 ≡ b → list_any q (numbers es) ≡ list_any (λ d. q d.0 && p d) es
          → list_any q (map (λ (d : ℕ × V). d.0) (cond c (e ∷ filter p es) (filter p es))) ≡ ((b && c) || list_any (λ d. q d.0 && p d) es)
      go true true is more = ap (λ b. b || list_any q (numbers es)) is
      go false true is more = ap (λ b. b || list_any q (numbers es)) is ∙ more
      go true false is more = more
      go false false is more = more

-- ---- as calls find it

module _ {V : Type 0} (name_of : V → List ℕ) (name : List ℕ) (rows : List (ℕ × V)) (numbers : List ℕ) (found : numbers ≡ map (λ r. r.0) (filter (λ r. bytes_eq (name_of r.1) name) rows)) where
  pub taken_is : (empty : Bool) → empty ≡ (length numbers == 0) → not empty ≡ is_taken name_of name rows
  taken_is empty is = ap not is ∙ ap (λ (ns : List ℕ). not (length ns == 0)) found ∙ some_there (λ r. bytes_eq (name_of r.1) name) rows

  pub another_is : (n : ℕ) (shown : List ℕ) (another : Bool) → another ≡ list_any (λ m. not (m == n)) shown → shown ≡ numbers → another ≡ is_taken_by_another name_of n name rows
  another_is n shown another is same = is ∙ ap (list_any (λ m. not (m == n))) (same ∙ found) ∙ some_such_there (λ r. bytes_eq (name_of r.1) name) (λ m. not (m == n)) rows
