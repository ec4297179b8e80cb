use Rattle.std.proofs.Common.{◌≡◌, ◌++◌}
use Rattle.adr_mirror.proofs.risen.Risen.list.Given as goal

-- the keys so far, and those that are left
abbrev pub invariant-loop-key : goal.invariant-loop-key
invariant-loop-key l = l.keys ++ l.key-iterator ≡ l.self.keys
