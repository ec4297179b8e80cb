-- How often a delivery may fail, and how long it waits then.
use Rattle.std.specs.Prelude.{ℕ, ◌+◌, ◌^◌, min, nat_lt, Option, Some, None, if◌then◌else◌}

-- a waiting entry failed seven times at most: the eighth failure gives it up
abbrev pub most_failures : ℕ
most_failures = 7

-- how often a waiting entry failed, where that is at most seven times
abbrev pub failures_of : ℕ → Option ℕ
failures_of n = if nat_lt most_failures n then None else Some n

-- one failure more, unless it is the eighth
abbrev pub one_more : ℕ → Option ℕ
one_more failures = failures_of (failures + 1)

-- the seconds from a failure on until the entry is due, where so many went before: 1, 2, 4, 8, 16, 32 and then 60
abbrev pub wait_after : ℕ → ℕ
wait_after failures = min (2 ^ failures) 60
