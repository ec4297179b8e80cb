use Rattle.std.proofs.Common.{◌≡◌, take, vec_len}
use Rattle.adr_view.specs.Rollups.{reporters}
use Rattle.adr_view.proofs.rollup.reporters.Given as goal

abbrev pub invariant-loop-p : goal.invariant-loop-p
invariant-loop-p l = record {
  value : l.all.items ≡ reporters l.reports (take l.p-index l.ps);
  count : vec_len l.all ≡ l.p-index;
}
