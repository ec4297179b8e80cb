use Rattle.std.proofs.Common.{◌≡◌, map}
use Rattle.adr_kept_view.specs.Changes.{kept_row}
use Rattle.adr_upkeep.proofs.found.kept_rows.Given as goal

abbrev pub invariant-rows : goal.invariant-rows
invariant-rows l = l.kept ≡ map kept_row l.yielded
