use Rattle.std.proofs.Common.{◌≡◌}
use Rattle.adr_touched.proofs.ordered.in_order.Given as goal

-- those so far
abbrev pub invariant-items : goal.invariant-items
invariant-items g l = l.sorted ≡ l.yielded
