use Rattle.std.proofs.Common.{◌≡◌, ◌≤◌, length}
use Rattle.adr_objects.specs.NameSets.{name_set}
use Rattle.adr_objects.proofs.name_set.NameSet.of.Given as goal

-- the set of the names so far
abbrev pub invariant-loop-name : goal.invariant-loop-name
invariant-loop-name l = record {
  so_far : l.set ≡ name_set l.yielded;
  few : length l.set ≤ length l.yielded;
}
