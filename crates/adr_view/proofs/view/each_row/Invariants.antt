use Rattle.std.proofs.Common.{◌≡◌, ◌++◌, map, drop}
use Rattle.std.specs.List.{enumerate_from}
use Rattle.adr_view.specs.Views.{event_row}
use Rattle.adr_view.proofs.view.each_row.Given as goal

-- the rows so far, and those of the participants that are left
abbrev pub invariant-loop-place : goal.invariant-loop-place
invariant-loop-place l =
    l.rows.items ++ map (event_row l.id l.event l.intervals) (enumerate_from l.place (drop l.place l.ps)) ≡ map (event_row l.id l.event l.intervals) (enumerate_from 0 l.ps)
