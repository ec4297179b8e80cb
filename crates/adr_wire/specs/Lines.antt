-- Where lines end.
use Rattle.std.specs.Prelude.{ℕ, ◌-◌, Bool, ◌&&◌, ◌||◌, ◌==◌, List, drop, slice_index, nat_lt, if◌then◌else◌}
use Rattle.std.specs.List.{list_any}

-- a line ends behind the first from bytes
abbrev pub has_line_end : ℕ → List ℕ → Bool
has_line_end from bytes = list_any (λ b. b == 10) (drop from bytes)

-- a line begins at a place: nothing stands before it, or the end of another line
abbrev pub begins_line : ℕ → List ℕ → Bool
begins_line place bytes = place == 0 || slice_index bytes (place - 1) == 10

-- a place, or that of the carriage return before it
abbrev pub before_return : ℕ → List ℕ → ℕ
before_return place bytes = if nat_lt 0 place && slice_index bytes (place - 1) == 13 then place - 1 else place

-- a line with nothing in it ends with the byte at a place
abbrev pub is_empty_line_at : ℕ → List ℕ → Bool
is_empty_line_at place bytes = slice_index bytes place == 10 && begins_line (before_return place bytes) bytes
