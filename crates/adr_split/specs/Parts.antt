-- The fair split, computed part by part.
use Rattle.std.specs.Prelude.{ℕ, ◌+◌, ℤ, unsigned_abs, Bool, nat_lt, if◌then◌else◌, List, map, sum}
use Rattle.std.specs.List.{enumerate_from}
use Rattle.adr_split.specs.declared.claims.Claim.{Claim}
use Rattle.adr_split.specs.Quotas.{quota_of, missing_of, signed_as}
use Rattle.adr_split.specs.Claims.{goes_before, claim_of, claims_of, rank_among}

-- a claim is served where fewer claims go before it than units are missing
abbrev pub is_served : ℕ → ℕ → List ℕ → Claim → Bool
is_served amount total w c = nat_lt (rank_among (claims_of amount total w) c) (missing_of amount total w)

abbrev pub magnitude_of : ℕ → ℕ → List ℕ → ℕ × ℕ → ℕ
magnitude_of amount total w e = quota_of amount total e.1 + (if is_served amount total w (claim_of amount total e) then 1 else 0)

-- the part of a place and its share
abbrev pub part_of : ℤ → List ℕ → ℕ × ℕ → ℤ
part_of v w e = signed_as v (magnitude_of (unsigned_abs v) (sum w) w e)

-- the same, where the claims before c are served
abbrev pub part_before : ℤ → ℕ → Claim → ℕ × ℕ → ℤ
part_before v total c e = signed_as v (quota_of (unsigned_abs v) total e.1 + (if goes_before (claim_of (unsigned_abs v) total e) c then 1 else 0))

-- all parts, in the order of the shares, each from its quota and from how many claims go before its own
unfoldable pub fair_split : ℤ → List ℕ → List ℤ
fair_split v w = map (part_of v w) (enumerate_from 0 w)
