use Rattle.std.proofs.Common.{◌≡◌, ◌++◌, map, drop}
use Rattle.serde_json.specs.View.{view}
use Rattle.adr_schema.specs.PassedOver.{passed_over}
use Rattle.adr_schema.proofs.passed_over.passed_over.Given as goal

-- those so far and those among the targets that are left are all of them
abbrev pub invariant-loop-number : goal.invariant-loop-number
invariant-loop-number l =
    l.passed.items ++ passed_over l.number (map view (drop l.number l.targets)) ≡ passed_over 0 (map view l.targets)
