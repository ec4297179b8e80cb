use Rattle.std.proofs.Common.{◌≡◌}
use Rattle.adr_state.specs.Keys.{with_rows}
use Rattle.adr_db.proofs.reading.put_all.Given as goal

abbrev pub invariant-rows : goal.invariant-rows
invariant-rows g l = l.table ≡ with_rows g.K.Ord.cmp l.fn.table l.yielded
