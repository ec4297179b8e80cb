use Rattle.std.proofs.Common.{◌≡◌, ◌≤◌, ◌+◌, ◌++◌, map, drop}
use Rattle.serde_json.specs.View.{view}
use Rattle.adr_schema.specs.Pages.{founds, skipped}
use Rattle.adr_schema.proofs.read_found.each_found.Given as goal

-- those so far and those that are left are all of them
abbrev pub invariant-loop-v : goal.invariant-loop-v
invariant-loop-v l = record {
  few : l.skipped ≤ l.v-index;
  found : l.versions ++ founds l.kind (map view (drop l.v-index l.values)) ≡ founds l.kind (map view l.values);
  skipped : l.skipped + skipped l.kind (map view (drop l.v-index l.values)) ≡ skipped l.kind (map view l.values);
}
