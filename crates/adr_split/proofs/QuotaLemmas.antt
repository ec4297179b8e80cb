-- The quotas together leave over at least nothing, and fewer units than there are shares.
use Rattle.std.proofs.Common.{◌≡◌, ℕ, ◌+◌, ◌-◌, ◌*◌, ◌<◌, ◌≤◌, List, [], ◌∷◌, length, get_or, take, sum, sum_by, refl, sym, ap, subst, ◌∙◌, arith}
use Rattle.std.specs.List.{All}
use Rattle.std.proofs.Math.Nat.{mul-add, add-mul, mul-zero, zero-mul, le_of_mul-le-mul_right, lt_of_mul-lt-mul_right}
use Rattle.std.proofs.lemmas.Nat.{div-add-mod', mod_below}
use Rattle.std.proofs.lemmas.List.Sums.{sum_by-cons, sum_by_more_le, sum_by-take-le}
use Rattle.std.proofs.lemmas.List.{take_all}
use Rattle.std.proofs.lemmas.List.Elements.{All-head}
use Rattle.adr_split.specs.Quotas.{quota_of, remainder_of, missing_of}

-- quotas and remainders together are the whole
whole : (a t : ℕ) (w : List ℕ) → sum_by (quota_of a t) w * t + sum_by (remainder_of a t) w ≡ a * sum w
whole a t [] = omega (arith, zero-mul t, mul-zero a)
whole a t (x ∷ w) =
    rw (sum_by-cons (quota_of a t) x w, sum_by-cons (remainder_of a t) x w, sum_by-cons (λ (y : ℕ). y) x w)
    (omega (arith, add-mul (quota_of a t x) (sum_by (quota_of a t) w) t, mul-add a x (sum w), div-add-mod' (a * x) t, whole a t w))

remainders_below : (a t : ℕ) (w : List ℕ) → 0 < t → sum_by (remainder_of a t) w + length w ≤ length w * t
remainders_below a t [] h = omega (arith, zero-mul t)
remainders_below a t (x ∷ w) h =
    omega (arith, sum_by-cons (remainder_of a t) x w, add-mul 1 (length w) t, mod_below (a * x) t h, remainders_below a t w h)

pub quotas_within : (a t : ℕ) (w : List ℕ) → t ≡ sum w → 0 < t → sum_by (quota_of a t) w ≤ a
quotas_within a t w e h = le_of_mul-le-mul_right {k = t} (omega (arith, whole a t w, ap (λ n. a * n) e)) h

pub missing_below : (a : ℕ) (w : List ℕ) → 0 < sum w → missing_of a (sum w) w < length w
missing_below a [] h = absurd (omega arith)
missing_below a (x ∷ w) h =
    let t : ℕ = sum (x ∷ w) in
    let q : ℕ = sum_by (quota_of a t) (x ∷ w) in
    let within : q ≤ a = quotas_within a t (x ∷ w) refl h in
    let parted : (a - q) + q ≡ a = omega arith in
    lt_of_mul-lt-mul_right t (omega (arith, whole a t (x ∷ w), remainders_below a t (x ∷ w) h, add-mul (a - q) q t, ap (λ n. n * t) parted))

pub some_total : (w : List ℕ) → 0 < length w → All (λ x. 1 ≤ x) w → 0 < sum w
some_total [] l h = absurd (omega arith)
some_total (x ∷ w) l h = omega (arith, sum_by-cons (λ (y : ℕ). y) x w, All-head (λ y. 1 ≤ y) x w h)

-- the quotas up to i, with the one at i
pub quotas_so_far : (a t : ℕ) (w : List ℕ) (i d : ℕ) → t ≡ sum w → 0 < t → i < length w → sum_by (quota_of a t) (take i w) + quota_of a t (get_or w i d) ≤ a
quotas_so_far a t w i d e h l = omega (arith, quotas_within a t w e h, sum_by_more_le (quota_of a t) w i d l)

pub quotas_up_to : (a t : ℕ) (w : List ℕ) (i : ℕ) → t ≡ sum w → 0 < t → sum_by (quota_of a t) (take i w) ≤ a
quotas_up_to a t w i e h = omega (arith, quotas_within a t w e h, sum_by-take-le (quota_of a t) w i)

-- what is left of the amount once all shares had their quotas
pub fewer_than_shares : (a t g i : ℕ) (w : List ℕ) → t ≡ sum w → 0 < t → length w ≤ i → g ≡ sum_by (quota_of a t) (take i w) → a - g < length w
fewer_than_shares a t g i w e h l is =
    let all : g ≡ sum_by (quota_of a (sum w)) w = is ∙ ap (λ n. sum_by (quota_of a n) (take i w)) e ∙ ap (sum_by (quota_of a (sum w))) (take_all i w l) in
    subst (λ n. a - n < length w) (sym all) (missing_below a w (subst (λ n. 0 < n) e h))
