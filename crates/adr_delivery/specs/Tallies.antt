-- Counts of entries.
use Rattle.std.specs.Prelude.{ℕ, ◌+◌, nat_lt, Option, Some, None, if◌then◌else◌}

-- what a count stops at: 9·10^15, as many as there are numbers to draw
abbrev pub most_tally : ℕ
most_tally = 9_000_000_000_000_000

-- a count, where it is at most what it stops at
abbrev pub tally_of : ℕ → Option ℕ
tally_of n = if nat_lt most_tally n then None else Some n

-- a count with so many more, or what it stops at, 9·10^15
abbrev pub plus : ℕ → ℕ → ℕ
plus n more = if nat_lt most_tally (n + more) then most_tally else n + more
