use Rattle.std.proofs.Common.{◌≡◌, take, drop}
use Rattle.adr_objects.specs.Intervals.{differ_after, differ}
use Rattle.adr_objects.proofs.interval.differ.Given as goal

-- those so far differ, so it is up to those that are left
abbrev pub invariant-loop-i : goal.invariant-loop-i
invariant-loop-i g l = differ_after g.T.HasId.id_of (take l.i l.items) (drop l.i l.items) ≡ differ g.T.HasId.id_of l.items
