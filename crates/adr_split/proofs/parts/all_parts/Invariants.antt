use Rattle.std.proofs.Common.{◌≡◌, ◌++◌, map, drop}
use Rattle.std.specs.List.{enumerate_from}
use Rattle.adr_split.specs.Parts.{part_before}
use Rattle.adr_split.proofs.parts.all_parts.Given as goal

abbrev pub invariant-loop-place : goal.invariant-loop-place
invariant-loop-place l =
    l.parts.items ++ map (part_before l.setpoint l.total l.first_unserved) (enumerate_from l.place (drop l.place l.shares)) ≡ map (part_before l.setpoint l.total l.first_unserved) (enumerate_from 0 l.shares)
