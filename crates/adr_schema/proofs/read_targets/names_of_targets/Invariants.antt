use Rattle.std.proofs.Common.{◌≡◌, map, drop}
use Rattle.std.specs.List.{filter}
use Rattle.serde_json.specs.View.{view}
use Rattle.adr_text.proofs.Each.{with_front}
use Rattle.adr_schema.specs.Events.{resource_target, all_names}
use Rattle.adr_schema.specs.FirstFaults.{names_place}
use Rattle.adr_schema.proofs.read_targets.names_of_targets.Given as goal

-- the names so far and those of the targets that are left are all of them, and a fault is among those that are left
abbrev pub invariant-loop-number : goal.invariant-loop-number
invariant-loop-number l = record {
  so_far : with_front l.names.items (all_names (filter resource_target (map view (drop l.number l.targets)))) ≡ all_names (filter resource_target (map view l.targets));
  place : names_place l.number (map view (drop l.number l.targets)) ≡ names_place 0 (map view l.targets);
}
