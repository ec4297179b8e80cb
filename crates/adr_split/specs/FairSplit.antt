-- The fair split of a setpoint, by the largest remainder.
use Rattle.std.specs.Prelude.{◌≡◌, ℕ, ◌+◌, ◌<◌, ◌⊎◌, ℤ, pos, ◌+ℤ◌, unsigned_abs, List, length, slice_index, slice_index_or, sum, fold, All}
use Rattle.adr_split.specs.Quotas.{quota_of, remainder_of, signed_as}

-- the resource's part of the magnitude of v, rounded down
abbrev pub quota_at : ℤ → List ℕ → ℕ → ℕ
quota_at v w i = quota_of (unsigned_abs v) (sum w) (slice_index w i)

abbrev pub remainder_at : ℤ → List ℕ → ℕ → ℕ
remainder_at v w i = remainder_of (unsigned_abs v) (sum w) (slice_index w i)

abbrev pub magnitude_at : List ℤ → ℕ → ℕ
magnitude_at p i = unsigned_abs (slice_index_or p i (pos 0))

abbrev pub HasItsQuota : ℤ → List ℕ → List ℤ → ℕ → Type 0
HasItsQuota v w p i = magnitude_at p i ≡ quota_at v w i

abbrev pub HasOneMore : ℤ → List ℕ → List ℤ → ℕ → Type 0
HasOneMore v w p i = magnitude_at p i ≡ quota_at v w i + 1

-- i has the larger remainder, or an equal one and stands earlier
abbrev pub GoesFirst : ℤ → List ℕ → ℕ → ℕ → Type 0
GoesFirst v w i j = (remainder_at v w j < remainder_at v w i) ⊎ ((remainder_at v w i ≡ remainder_at v w j) × (i < j))

abbrev pub sum_of_parts : List ℤ → ℤ
sum_of_parts p = fold ◌+ℤ◌ (pos 0) p

-- p splits v over the weights w: one part for each, which sum to v. Each part's magnitude is its quota,
-- floor(M·wᵢ/W), or one more, where M is the magnitude of v and W the sum of the weights. What got one more has a
-- larger remainder than what did not, or an equal one and stands earlier. Each part has the sign of v, or is 0
pub record IsFairSplit (v : ℤ) (w : List ℕ) (p : List ℤ) : Type 0 where
  pub one_part_each : length p ≡ length w
  pub sums_up : sum_of_parts p ≡ v
  pub quota_or_one_more : (i : ℕ) → i < length w → HasItsQuota v w p i ⊎ HasOneMore v w p i
  pub largest_remainders : (i j : ℕ) → i < length w → j < length w → HasOneMore v w p i → HasItsQuota v w p j → GoesFirst v w i j
  pub signs : All (λ x. x ≡ signed_as v (unsigned_abs x)) p
