use Rattle.std.proofs.Common.{◌≡◌, ◌↔◌}
use Rattle.adr_same.proofs.lists.NameSetSame.is_same.Given as goal

-- the sets are the same where what is left of them is
abbrev pub invariant-loop-name : goal.invariant-loop-name
invariant-loop-name l = (l.name-iterator ≡ l.other_names) ↔ (l.self ≡ l.other)
