use Rattle.std.proofs.Common.{◌≡◌, ◌↔◌, drop}
use Rattle.adr_same.proofs.lists.is_same_list.Given as goal

-- the lists are the same where what is left of them is
abbrev pub invariant-loop-item : goal.invariant-loop-item
invariant-loop-item g l = (drop l.item-index l.list ≡ l.others.rest.now) ↔ (l.list ≡ l.other)
