use Rattle.std.proofs.Common.{◌≡◌, take}
use Rattle.adr_routes.specs.Tables.{rows_of_table}
use Rattle.adr_routes.specs.Places.{entries_of}
use Rattle.adr_routes.proofs.routes.router_of.Given as goal

abbrev pub invariant-loop-place : goal.invariant-loop-place
invariant-loop-place l = l.router ≡ rows_of_table (entries_of (take l.place-index l.places))
