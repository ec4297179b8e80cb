use Rattle.std.proofs.Common.{◌≡◌, map, drop}
use Rattle.std.specs.String.{string_bytes}
use Rattle.adr_node.specs.Arguments.{limits_after}
use Rattle.adr_node.proofs.arguments.limits_after.Given as goal

abbrev pub invariant-loop-argument : goal.invariant-loop-argument
invariant-loop-argument l =
    limits_after l.limits (map string_bytes (drop l.argument-index l.arguments)) ≡ limits_after l.initial.limits (map string_bytes l.arguments)
