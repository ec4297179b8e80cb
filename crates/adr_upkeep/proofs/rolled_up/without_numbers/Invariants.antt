use Rattle.std.proofs.Common.{◌≡◌, map}
use Rattle.adr_upkeep.proofs.rolled_up.without_numbers.Given as goal

abbrev pub invariant-rows : goal.invariant-rows
invariant-rows l = l.reports.items ≡ map (λ r. r.1) l.yielded
