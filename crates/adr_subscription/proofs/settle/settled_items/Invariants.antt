use Rattle.std.proofs.Common.{◌≡◌, ◌+◌, length}
use Rattle.adr_text.proofs.Each.{with_front}
use Rattle.adr_subscription.specs.Callbacks.{settled_items}
use Rattle.adr_subscription.proofs.settle.settled_items.Given as goal

-- the items so far and those that are left are all of them
abbrev pub invariant-loop-item : goal.invariant-loop-item
invariant-loop-item l = record {
  len : length l.kept.items + length l.item-iterator.rest.items ≡ length l.fn.items.items;
  so_far : with_front l.kept.items (settled_items l.item-iterator.rest.items) ≡ settled_items l.fn.items.items;
}
