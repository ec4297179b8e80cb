use Rattle.std.proofs.Common.{◌≡◌}
use Rattle.std.specs.List.{flat_map}
use Rattle.adr_state.specs.Keys.{view_cmp, with_rows}
use Rattle.adr_view.specs.Views.{rollup_rows}
use Rattle.adr_view.proofs.all.put_rollups.Given as goal

-- the rows so far, and those of the keys that are left
abbrev pub invariant-marks : goal.invariant-marks
invariant-marks l = with_rows view_cmp l.view (flat_map (rollup_rows l.base) l.key-iterator) ≡ with_rows view_cmp l.fn.view (flat_map (rollup_rows l.base) l.base.mirror)
