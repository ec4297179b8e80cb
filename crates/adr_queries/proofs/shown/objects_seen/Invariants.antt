use Rattle.std.proofs.Common.{◌≡◌, ◌++◌}
use Rattle.adr_queries.specs.Shown.{objects_seen}
use Rattle.adr_queries.proofs.shown.objects_seen.Given as goal

-- the objects so far, and those at the keys that are left
abbrev pub invariant-loop-key : goal.invariant-loop-key
invariant-loop-key l = l.all.items ++ objects_seen l.base l.key-iterator l.stamps l.kind l.sight ≡ objects_seen l.base l.view l.stamps l.kind l.sight
