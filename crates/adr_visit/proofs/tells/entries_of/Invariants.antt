use Rattle.std.proofs.Common.{◌≡◌, ◌++◌, drop}
use Rattle.std.specs.List.{flat_map}
use Rattle.adr_visit.proofs.tells.entries_of.Given as goal

-- those so far, and those of the changes that are left
abbrev pub invariant-loop-change : goal.invariant-loop-change
invariant-loop-change g l = l.all.items ++ flat_map (g.T.Tells.told l.teller l.subs l.item) (drop l.change-index l.changes) ≡ flat_map (g.T.Tells.told l.teller l.subs l.item) l.changes
