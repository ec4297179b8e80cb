-- A name that no other row has.
use Rattle.std.proofs.Common.{◌≡◌, ℕ, Bool, true, false, not, ◌==◌, ◌&&◌, List, inl, inr, refl, sym, ap, ◌∙◌}
use Rattle.adr_laws.proofs.Common.{Contains, list_any, unsigned_Decides, both_ways, not-false, and_cases, false_from_ne_true}
use Rattle.std.specs.Str.{bytes_eq}
use Rattle.std.proofs.lemmas.List.Recursion.{or_at}
use Rattle.std.proofs.lemmas.Slice.Eq.{bytes_eq-Decides}

-- no other row than that of the number has the name, or whatever names a row
abbrev pub Free : {V X : Type 0} → (V → X) → ℕ → X → List (ℕ × V) → Type 0
Free {V} name k x rows = (b : ℕ × V) → Contains rows b → x ≡ name b.1 → k ≡ b.0

-- what is there fails a test that none passes
none_passes : {A : Type 0} (test : A → Bool) (xs : List A) (x : A) → list_any test xs ≡ false → Contains xs x → test x ≡ false
none_passes test xs x none there =
    false_from_ne_true (test x) (λ passes. both_ways (list_any test xs) none (or_at (list_any test) test refl (λ y ys. refl) xs there.0 x there.1 (ap test there.2 ∙ passes)))

module _ {V : Type 0} (name : V → List ℕ) (k : ℕ) (x : List ℕ) (rows : List (ℕ × V)) where
  named : (b : ℕ × V) → x ≡ name b.1 → bytes_eq (name b.1) x ≡ true
  named b is = (bytes_eq-Decides (name b.1) x).1 (sym is)

  pub free_new : list_any (λ r. bytes_eq (name r.1) x) rows ≡ false → Free name k x rows
  free_new none b there is = absurd (both_ways (bytes_eq (name b.1) x) (none_passes (λ r. bytes_eq (name r.1) x) rows b none there) (named b is))

  pub free_again : list_any (λ r. not (r.0 == k) && bytes_eq (name r.1) x) rows ≡ false → Free name k x rows
  free_again none b there is = elim (and_cases (not (b.0 == k)) (bytes_eq (name b.1) x) (none_passes (λ r. not (r.0 == k) && bytes_eq (name r.1) x) rows b none there)) [
    | inl itself ↦ sym ((unsigned_Decides b.0 k).0 (not-false (b.0 == k) itself))
    | inr other ↦ absurd (both_ways (bytes_eq (name b.1) x) other (named b is))
  ]
