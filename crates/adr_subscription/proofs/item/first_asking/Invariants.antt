use Rattle.std.proofs.Common.{◌≡◌, drop}
use Rattle.std.specs.List.{find}
use Rattle.adr_subscription.specs.Matching.{asks_for}
use Rattle.adr_subscription.proofs.item.first_asking.Given as goal

-- none so far asks for it, so it is up to those that are left
abbrev pub invariant-loop-item : goal.invariant-loop-item
invariant-loop-item l = find (asks_for l.kind l.operation) (drop l.item-index l.items) ≡ find (asks_for l.kind l.operation) l.items
