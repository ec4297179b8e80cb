-- What was found by its number is there.
use Rattle.std.proofs.Common.{◌≡◌, ℕ, true, List, Option, None, Some, Ok, refl, sym, ap, subst}
use Rattle.std.specs.Prelude.{is_some, option_map, option_and_then}
use Rattle.adr_text.specs.Refusals.{or_else}
use Rattle.adr_db.proofs.Common.{Refusal, at, nat_cmp}
use Rattle.adr_counted.specs.There.{IsThere}

-- what is found is what was looked for
pub found_is : {A : Type 0} (e : Refusal) (found : Option A) (x : A) → or_else e found ≡ Ok x → found ≡ Some x
found_is e None x is = absurd cc
found_is e (Some y) x is = let same : y ≡ x = cc in ap Some same

module _ {V : Type 0} (rows : List (ℕ × V)) where
  -- one that is found by a number, with it, is there
  pub is_known : (number : Option ℕ) (e : ℕ × V) → option_and_then (λ n. option_map (λ v. (n, v)) (at nat_cmp n rows)) number ≡ Some e → is_some (at nat_cmp e.0 rows) ≡ true
  is_known None e is = absurd cc
  is_known (Some n) e is = by (at nat_cmp n rows) refl is
    where
      by : (o : Option V) → at nat_cmp n rows ≡ o → option_map (λ v. (n, v)) o ≡ Some e → is_some (at nat_cmp e.0 rows) ≡ true
      by None found is = absurd cc
      by (Some v) found is =
          let same : ◌≡◌ {A = ℕ × V} (n, v) e = cc in
          subst (λ (e : ℕ × V). is_some (at nat_cmp e.0 rows) ≡ true) same (ap is_some found)

  -- and what was looked for so is there, where it was found
  pub found_there : (number : Option ℕ) (found : Option (ℕ × V)) → found ≡ option_and_then (λ n. option_map (λ v. (n, v)) (at nat_cmp n rows)) number → IsThere found rows
  found_there number None is = tt
  found_there number (Some e) is = is_known number e (sym is)

  pub one_there : (own : Refusal) (found : Option (ℕ × V)) (e : ℕ × V) → or_else own found ≡ Ok e → IsThere found rows → is_some (at nat_cmp e.0 rows) ≡ true
  one_there own None e is there = absurd cc
  one_there own (Some x) e is there = let same : x ≡ e = cc in subst (λ (e : ℕ × V). is_some (at nat_cmp e.0 rows) ≡ true) same there
