-- The weights of shares, and how many resources there may be.
use Rattle.std.specs.Prelude.{ℕ, nat_le, Bool, ◌&&◌, Option, Some, None, if◌then◌else◌}

-- the largest weight of a share: 1,000,000
abbrev pub most_weight : ℕ
most_weight = 1_000_000

-- from 1 to 1,000,000
abbrev pub is_weight : ℕ → Bool
is_weight n = nat_le 1 n && nat_le n most_weight

-- the weight, where it is from 1 to 1,000,000
abbrev pub weight_of : ℕ → Option ℕ
weight_of n = if is_weight n then Some n else None

-- how many resources there may be: 10,000
abbrev pub most_resources : ℕ
most_resources = 10_000
