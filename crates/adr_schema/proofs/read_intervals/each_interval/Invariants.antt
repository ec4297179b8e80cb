use Rattle.std.proofs.Common.{◌≡◌, IsTrue, [], map, drop, vec_len}
use Rattle.serde_json.specs.View.{view}
use Rattle.adr_objects.specs.Intervals.{differ}
use Rattle.adr_schema.specs.Events.{intervals_from}
use Rattle.adr_schema.specs.FirstFaults.{each_place}
use Rattle.adr_text.proofs.Each.{with_front}
use Rattle.adr_schema.proofs.read_intervals.each_interval.Given as goal

-- the intervals so far and those that are left, after those, are all of them, and a fault is among those that are left
abbrev pub invariant-loop-v : goal.invariant-loop-v
invariant-loop-v l = record {
  len : vec_len l.intervals ≡ l.v-index;
  apart : IsTrue (differ (λ i. i.id) l.intervals.items);
  so_far : with_front l.intervals.items (intervals_from l.intervals.items (map view (drop l.v-index l.values))) ≡ intervals_from [] (map view l.values);
  place : each_place l.intervals.items (map view (drop l.v-index l.values)) ≡ each_place [] (map view l.values);
}
