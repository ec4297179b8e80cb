-- Which setpoints and shares a split takes.
use Rattle.std.specs.Prelude.{ℕ, nat_le, ℤ, pos, negsuc, suc, Bool, List, All, ◌≤◌}

-- the largest magnitude of a setpoint: 10^12
abbrev pub max_setpoint : ℕ
max_setpoint = 1_000_000_000_000

-- a setpoint's magnitude is at most the largest
abbrev pub is_setpoint : ℤ → Bool
is_setpoint (pos n) = nat_le n max_setpoint
is_setpoint (negsuc n) = nat_le (suc n) max_setpoint

-- how many shares a split takes at most: 10,000
abbrev pub max_shares : ℕ
max_shares = 10_000

-- the largest share: 1,000,000
abbrev pub max_share : ℕ
max_share = 1_000_000

-- each share is at least 1 and at most the largest
abbrev pub AreShares : List ℕ → Type 0
AreShares w = All (λ x. (1 ≤ x) × (x ≤ max_share)) w
