use Rattle.std.proofs.Common.{◌≡◌, map, take, All}
use Rattle.serde_json.specs.View.{view}
use Rattle.adr_written.specs.WrittenReports.{rollup_interval_data}
use Rattle.adr_shown.specs.Types.{IsRollupInterval}
use Rattle.adr_shown.proofs.rolled_up.interval_values.Given as goal

abbrev pub invariant-loop-interval : goal.invariant-loop-interval
invariant-loop-interval l = record {
  values : map view l.values.items ≡ map rollup_interval_data (take l.interval-index l.intervals);
  kept : All IsRollupInterval (take l.interval-index l.intervals);
}
