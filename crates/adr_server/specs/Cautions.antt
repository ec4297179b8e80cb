-- When it may be that a utility is out of order which lists less than it did.
use Rattle.std.specs.Prelude.{ℕ, Bool, nat_lt, ◌&&◌}

-- more than ten objects are on no page, and more than the versions that are: so more than half of what is live
abbrev pub is_mass : ℕ → ℕ → Bool
is_mass versions missed = nat_lt 10 missed && nat_lt versions missed
