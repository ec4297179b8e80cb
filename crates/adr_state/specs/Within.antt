-- Numbers from 1 up to a largest.
use Rattle.std.specs.Prelude.{ℕ, nat_le, ◌&&◌, Option, Some, None, if◌then◌else◌}

-- the number, where it is at least 1 and at most the given one
abbrev pub where_within : ℕ → ℕ → Option ℕ
where_within most n = if nat_le 1 n && nat_le n most then Some n else None
