-- A magnitude under a sign.
use Rattle.std.proofs.Common.{◌≡◌, ℕ, zero, suc, ◌+◌, ℤ, pos, negsuc, ◌+ℤ◌, List, [], ◌∷◌, map, fold, sum_by, refl, sym, ap, ◌∙◌, arith}
use Rattle.std.specs.Prelude.{unsigned_abs}
use Rattle.std.proofs.Math.IntN.{neg_ℤ-+ℤ}
use Rattle.std.proofs.lemmas.List.Sums.{sum_by-cons}
use Rattle.adr_split.specs.Quotas.{signed_as}

pub signed_itself : (v : ℤ) → signed_as v (unsigned_abs v) ≡ v
signed_itself (pos n) = refl
signed_itself (negsuc n) = refl

pub abs_signed : (v : ℤ) (n : ℕ) → unsigned_abs (signed_as v n) ≡ n
abs_signed (pos _) n = refl
abs_signed (negsuc _) zero = refl
abs_signed (negsuc _) (suc n) = refl

pub signed_add : (v : ℤ) (m n : ℕ) → signed_as v m +ℤ signed_as v n ≡ signed_as v (m + n)
signed_add (pos _) m n = refl
signed_add (negsuc _) m n = sym (neg_ℤ-+ℤ (pos m) (pos n))

signed_zero : (v : ℤ) → signed_as v 0 ≡ pos 0
signed_zero (pos _) = refl
signed_zero (negsuc _) = refl

signed_fold : {X : Type 0} (v : ℤ) (f : X → ℕ) (m : ℕ) (xs : List X) → fold ◌+ℤ◌ (signed_as v m) (map (λ x. signed_as v (f x)) xs) ≡ signed_as v (m + sum_by f xs)
signed_fold v f m [] = ap (signed_as v) (omega arith)
signed_fold v f m (x ∷ xs) =
    ap (λ z. fold ◌+ℤ◌ z (map (λ y. signed_as v (f y)) xs)) (signed_add v m (f x))
    ∙ signed_fold v f (m + f x) xs
    ∙ ap (signed_as v) (omega (arith, sum_by-cons f x xs))

-- parts of one sign add up as their magnitudes do
pub signed_sum : {X : Type 0} (v : ℤ) (f : X → ℕ) (xs : List X) → fold ◌+ℤ◌ (pos 0) (map (λ x. signed_as v (f x)) xs) ≡ signed_as v (sum_by f xs)
signed_sum v f xs =
    ap (λ z. fold ◌+ℤ◌ z (map (λ y. signed_as v (f y)) xs)) (sym (signed_zero v))
    ∙ signed_fold v f 0 xs
    ∙ ap (signed_as v) (omega arith)
