-- What a share gives at once, what it leaves, and how a part takes the setpoint's sign.
use Rattle.std.specs.Prelude.{ℕ, ◌-◌, ◌*◌, ◌/◌, ◌%◌, ℤ, pos, negsuc, neg_ℤ, List, sum_by}

-- the share's part of the amount, rounded down
abbrev pub quota_of : ℕ → ℕ → ℕ → ℕ
quota_of amount total share = amount * share / total

-- what the rounding left
abbrev pub remainder_of : ℕ → ℕ → ℕ → ℕ
remainder_of amount total share = amount * share % total

-- the units that the quotas together leave over
abbrev pub missing_of : ℕ → ℕ → List ℕ → ℕ
missing_of amount total w = amount - sum_by (quota_of amount total) w

-- a magnitude under the sign of v
abbrev pub signed_as : ℤ → ℕ → ℤ
signed_as (pos _) n = pos n
signed_as (negsuc _) n = neg_ℤ (pos n)
