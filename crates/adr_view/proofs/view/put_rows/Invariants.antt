use Rattle.std.proofs.Common.{◌≡◌}
use Rattle.adr_state.specs.Keys.{view_cmp, with_rows}
use Rattle.adr_view.proofs.view.put_rows.Given as goal

abbrev pub invariant-rows : goal.invariant-rows
invariant-rows l = l.view ≡ with_rows view_cmp l.fn.view l.yielded
