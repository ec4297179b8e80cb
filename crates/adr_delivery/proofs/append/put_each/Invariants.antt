use Rattle.std.proofs.Common.{◌≡◌}
use Rattle.adr_delivery.specs.Outboxes.{with_entries}
use Rattle.adr_delivery.proofs.append.put_each.Given as goal

-- those so far are there
abbrev pub invariant-loop-number : goal.invariant-loop-number
invariant-loop-number l = l.waiting ≡ with_entries l.yielded l.fn.waiting
