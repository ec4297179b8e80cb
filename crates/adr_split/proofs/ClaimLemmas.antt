-- The claims' order, that no two claims tie, and ranks among the claims as ranks among the places.
use Rattle.std.proofs.Common.{◌≡◌, ℕ, ◌+◌, ◌<◌, ◌≤◌, Bool, true, false, eqb, List, [], ◌∷◌, count_by, ◌⊎◌, refl, ap, ⊎_elim, arith}
use Rattle.std.specs.Cmp.{IsTotalOrder, IsStrictWeakOrder}
use Rattle.std.specs.List.{enumerate_from}
use Rattle.std.proofs.lemmas.Bool.{cases_Bool, eqb-true, ne_eqb}
use Rattle.std.proofs.lemmas.Bool.Decides.{nat_tests}
use Rattle.std.proofs.lemmas.Cmp.{nat_cmp_total, on_total, then_total, back_total}
use Rattle.std.proofs.lemmas.List.Sorted.{ranks_by}
use Rattle.adr_split.specs.declared.claims.Claim.{Claim}
use Rattle.adr_split.specs.Claims.{claim_order, goes_before, claim_of, claims_of, rank_among}
use Rattle.adr_split.proofs.Counts.{unit, count_cons, count_le, count_map}
use Rattle.adr_split.proofs.Ranks.{rank, ties, AreApart}

pub claims_total : IsTotalOrder claim_order
claims_total = then_total (back_total (on_total (λ c. c.remainder) nat_cmp_total)) (on_total (λ c. c.place) nat_cmp_total)

-- the order of the claims, and that of places with their shares by their claims
pub claims_ordered : IsStrictWeakOrder goes_before
claims_ordered = ranks_by claims_total (λ c. c)

abbrev pub placed_before : ℕ → ℕ → ℕ × ℕ → ℕ × ℕ → Bool
placed_before a t e f = goes_before (claim_of a t e) (claim_of a t f)

pub places_ordered : (a t : ℕ) → IsStrictWeakOrder (placed_before a t)
places_ordered a t = ranks_by claims_total (claim_of a t)

pub goes_first : (b c : Claim) → goes_before b c ≡ true → (c.remainder < b.remainder) ⊎ ((b.remainder ≡ c.remainder) × (b.place < c.place))
goes_first b c h = grind (arith, nat_tests)

pub goes_before_from : (b c : Claim) → (c.remainder < b.remainder) ⊎ ((b.remainder ≡ c.remainder) × (b.place < c.place)) → goes_before b c ≡ true
goes_before_from b c h = grind (arith, nat_tests)

tied_at_place : (b c : Claim) → ties goes_before b c ≡ true → eqb c.place b.place ≡ true
tied_at_place b c h = grind (arith, nat_tests)

place_passed : (i n : ℕ) (w : List ℕ) → i < n → count_by (λ (e : ℕ × ℕ). eqb e.0 i) (enumerate_from n w) ≡ 0
place_passed i n [] h = refl
place_passed i n (x ∷ w) h =
    omega (arith, count_cons (λ (e : ℕ × ℕ). eqb e.0 i) (n, x) (enumerate_from (n + 1) w), ap unit (ne_eqb n i (λ e. omega arith)), place_passed i (n + 1) w (omega arith))

pub place_once : (i n : ℕ) (w : List ℕ) → count_by (λ (e : ℕ × ℕ). eqb e.0 i) (enumerate_from n w) ≤ 1
place_once i n [] = omega arith
place_once i n (x ∷ w) = ⊎_elim
    (λ (h : eqb n i ≡ true). omega (arith, count_cons (λ (e : ℕ × ℕ). eqb e.0 i) (n, x) (enumerate_from (n + 1) w), ap unit h, place_passed i (n + 1) w (omega (arith, eqb-true n i h))))
    (λ (h : eqb n i ≡ false). omega (arith, count_cons (λ (e : ℕ × ℕ). eqb e.0 i) (n, x) (enumerate_from (n + 1) w), ap unit h, place_once i (n + 1) w))
    (cases_Bool (eqb n i))

pub places_apart : (a t : ℕ) (w : List ℕ) → AreApart (placed_before a t) (enumerate_from 0 w)
places_apart a t w c =
    omega (arith, place_once c.0 0 w, count_le (ties (placed_before a t) c) (λ (e : ℕ × ℕ). eqb e.0 c.0) (enumerate_from 0 w) (λ k d l h. tied_at_place (claim_of a t c) (claim_of a t _) h))

-- claims of which no two have one place
pub claims_apart : (cs : List Claim) → ((place : ℕ) → count_by (λ (c : Claim). eqb c.place place) cs ≤ 1) → AreApart goes_before cs
claims_apart cs h c =
    omega (arith, h c.place, count_le (ties goes_before c) (λ (d : Claim). eqb d.place c.place) cs (λ k d l t. tied_at_place c _ t))

pub one_claim_a_place : (a t : ℕ) (w : List ℕ) (place : ℕ) → count_by (λ (c : Claim). eqb c.place place) (claims_of a t w) ≤ 1
one_claim_a_place a t w place = omega (arith, count_map (λ (c : Claim). eqb c.place place) (claim_of a t) (enumerate_from 0 w), place_once place 0 w)

pub rank_placed : (a t : ℕ) (w : List ℕ) (e : ℕ × ℕ) → rank_among (claims_of a t w) (claim_of a t e) ≡ rank (placed_before a t) (enumerate_from 0 w) e
rank_placed a t w e = count_map (λ d. goes_before d (claim_of a t e)) (claim_of a t) (enumerate_from 0 w)
