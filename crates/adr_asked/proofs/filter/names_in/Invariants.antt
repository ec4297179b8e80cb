use Rattle.std.proofs.Common.{◌≡◌, ◌++◌, map, drop}
use Rattle.std.specs.Cow.{cow_str_bytes}
use Rattle.adr_asked.specs.Filters.{names_in}
use Rattle.adr_asked.proofs.filter.names_in.Given as goal

-- the names so far, and those among the values that are left
abbrev pub invariant-loop-value : goal.invariant-loop-value
invariant-loop-value l = l.names.items ++ names_in (map cow_str_bytes (drop l.value-index l.values)) ≡ names_in (map cow_str_bytes l.values)
