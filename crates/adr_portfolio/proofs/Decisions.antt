-- What is decided, where its tests were made.
use Rattle.std.proofs.Common.{◌≡◌, ◌==◌, ◌&&◌, ℕ, Bool, true, false, cond, not, nat_le, List, length, map, filter, Option, None, Some, Result, Ok, refl, sym, ap, ap₂, subst, ◌∙◌}
use Rattle.std.specs.Prelude.{bytes_eq, is_none, is_some, option_and_then, if◌then◌else◌}
use Rattle.adr_db.proofs.Common.{list_any, at, nat_cmp, share_cmp, number_in, Refusal, Limits, Resource, ShareKey, is_taken, is_taken_by_another, is_full, if_new, if_free}
use Rattle.adr_text.specs.Refusals.{◌>>=◌}
use Rattle.adr_state.specs.declared.portfolio.Portfolio.{Portfolio}
use Rattle.adr_state.specs.Resources.{resource_with_id, resource_under, is_under}
use Rattle.adr_state.specs.Shares.{is_beyond}
use Rattle.adr_counted.proofs.Known.{is_known}
use Rattle.adr_portfolio.proofs.NameLemmas.{taken_is, another_is}

-- what is made is made behind the tests, or is refused by them
module _ {A : Type 0} (made : A) where
  new_made : (taken full : Bool) → if_new taken full made ≡ (if_new {A = Unit {0}} taken full tt >>= λ u. Ok made)
  new_made true full = refl
  new_made false true = refl
  new_made false false = refl

  free_made : (taken : Bool) → if_free taken made ≡ (if_free {A = Unit {0}} taken tt >>= λ u. Ok made)
  free_made true = refl
  free_made false = refl

  -- so it is, where they were made of what the tables tell
  module _ {V : Type 0} (name_of : V → List ℕ) (name : List ℕ) (rows : List (ℕ × V)) (r ended : Result Unit Refusal) (ends : r ≡ ended) (numbers : List ℕ) (found : numbers ≡ map (λ r. r.0) (filter (λ r. bytes_eq (name_of r.1) name) rows)) where
    pub new_tested : (limit most count : ℕ) (empty : Bool) → most ≡ limit → count ≡ length rows → empty ≡ (length numbers == 0) → r ≡ if_new {A = Unit {0}} (not empty) (nat_le most count) tt
        → if_new (is_taken name_of name rows) (is_full limit rows) made ≡ (ended >>= λ u. Ok made)
    new_tested limit most count empty same counted is tested =
        new_made (is_taken name_of name rows) (is_full limit rows)
        ∙ ap (λ (r : Result Unit Refusal). r >>= λ u. Ok made) (ap₂ (λ taken full. if_new {A = Unit {0}} taken full tt) (sym (taken_is name_of name rows numbers found empty is)) (sym (ap₂ nat_le same counted)) ∙ sym tested ∙ ends)

    pub free_tested : (n : ℕ) (shown : List ℕ) (another : Bool) → another ≡ list_any (λ m. not (m == n)) shown → shown ≡ numbers → r ≡ if_free {A = Unit {0}} another tt
        → if_free (is_taken_by_another name_of n name rows) made ≡ (ended >>= λ u. Ok made)
    free_tested n shown another is same tested =
        free_made (is_taken_by_another name_of n name rows)
        ∙ ap (λ (r : Result Unit Refusal). r >>= λ u. Ok made) (ap (λ taken. if_free {A = Unit {0}} taken tt) (sym (another_is name_of name rows numbers found n shown another is same)) ∙ sym tested ∙ ends)

-- a resource that was found under a ven is there
pub resource_known : (ven id : List ℕ) (p : Portfolio) (e : ℕ × Resource) → resource_under ven id p ≡ Some e → is_some (at nat_cmp e.0 p.resources) ≡ true
resource_known ven id p e is = by (resource_with_id id p) refl is
  where
    known : (r : ℕ × Resource) → resource_with_id id p ≡ Some r → is_some (at nat_cmp r.0 p.resources) ≡ true
    known r found = is_known p.resources (number_in 114 id) r found

    in_its_ven : (b : Bool) (r : ℕ × Resource) → resource_with_id id p ≡ Some r → cond b (Some r) None ≡ Some e → is_some (at nat_cmp e.0 p.resources) ≡ true
    in_its_ven true r found is = let same : r ≡ e = cc in subst (λ (e : ℕ × Resource). is_some (at nat_cmp e.0 p.resources) ≡ true) same (known r found)
    in_its_ven false r found is = absurd cc

    by : (o : Option (ℕ × Resource)) → resource_with_id id p ≡ o → option_and_then (λ r. if is_under ven p r.1 then Some r else None) o ≡ Some e → is_some (at nat_cmp e.0 p.resources) ≡ true
    by None found is = absurd cc
    by (Some r) found is = in_its_ven (is_under ven p r.1) r found is

-- whether a share is new, and there is no room for it
pub beyond_is : (limits : Limits) (key : ShareKey) (p : Portfolio) (is_there : Bool) (count : ℕ) → is_there ≡ is_some (at share_cmp key p.shares) → count ≡ length p.shares → (not is_there && nat_le limits.shares count) ≡ is_beyond limits key p.shares
beyond_is limits key p is_there count so same = ap₂ (λ (b : Bool) (n : ℕ). not b && nat_le limits.shares n) so same ∙ ap (λ b. b && is_full limits.shares p.shares) (none_there (at share_cmp key p.shares))
  where
    none_there : (o : Option ℕ) → not (is_some o) ≡ is_none o
    none_there None = refl
    none_there (Some weight) = refl
