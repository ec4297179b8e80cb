use Rattle.std.proofs.Common.{◌≡◌, ◌++◌, drop}
use Rattle.std.specs.List.{filter_map}
use Rattle.adr_kept_view.specs.Changes.{event_row}
use Rattle.adr_upkeep.proofs.found.event_rows.Given as goal

-- those so far, and those of the rows that are left
abbrev pub invariant-loop-row : goal.invariant-loop-row
invariant-loop-row l = l.events.items ++ filter_map event_row (drop l.row-index l.rows) ≡ filter_map event_row l.rows
