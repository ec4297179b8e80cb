use Rattle.std.proofs.Common.{◌≡◌, map, drop}
use Rattle.serde_json.specs.View.{view}
use Rattle.adr_schema.specs.Events.{typed_as}
use Rattle.adr_schema.specs.FirstFaults.{types_place}
use Rattle.adr_schema.proofs.read_targets.with_types.Given as goal

-- those that are left decide
abbrev pub invariant-loop-number : goal.invariant-loop-number
invariant-loop-number l = record {
  typed : typed_as (map view l.targets) (map view (drop l.number l.targets)) ≡ typed_as (map view l.targets) (map view l.targets);
  place : types_place l.number (map view (drop l.number l.targets)) ≡ types_place 0 (map view l.targets);
}
