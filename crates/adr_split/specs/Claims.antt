-- Each resource claims one of the units that are still missing, and the claims stand in one order.
use Rattle.std.specs.Prelude.{ℕ, Bool, List, map, count_by}
use Rattle.std.specs.declared.cmp.Ordering.{Ordering}
use Rattle.std.specs.Ordering.{nat_cmp, is_lt, on, flip_args, then_cmp}
use Rattle.std.specs.List.{enumerate_from}
use Rattle.adr_split.specs.declared.claims.Claim.{Claim}
use Rattle.adr_split.specs.Quotas.{remainder_of}

-- the larger remainder first, and of equal ones the earlier resource
abbrev pub claim_order : Claim → Claim → Ordering
claim_order = then_cmp (flip_args (on (λ c. c.remainder) nat_cmp)) (on (λ c. c.place) nat_cmp)

abbrev pub goes_before : Claim → Claim → Bool
goes_before a b = is_lt (claim_order a b)

-- the claim of a place and its share
abbrev pub claim_of : ℕ → ℕ → ℕ × ℕ → Claim
claim_of amount total e = record { remainder = remainder_of amount total e.1; place = e.0 }

-- the claim of each share, in the order of the shares, whose places count from 0
abbrev pub claims_of : ℕ → ℕ → List ℕ → List Claim
claims_of amount total w = map (claim_of amount total) (enumerate_from 0 w)

-- how many claims go before c
abbrev pub rank_among : List Claim → Claim → ℕ
rank_among claims c = count_by (λ d. goes_before d c) claims
