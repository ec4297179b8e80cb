use Rattle.std.proofs.Common.{◌≡◌}
use Rattle.adr_kept_view.specs.Changes.{with_numbers}
use Rattle.adr_upkeep.proofs.events.add_numbers.Given as goal

-- the numbers so far, with those that are left
abbrev pub invariant-loop-number : goal.invariant-loop-number
invariant-loop-number g l = with_numbers l.numbers.keys l.number-iterator ≡ with_numbers l.initial.numbers.keys l.map
