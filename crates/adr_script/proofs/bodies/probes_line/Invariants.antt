use Rattle.std.proofs.Common.{◌≡◌, ◌++◌, drop}
use Rattle.std.specs.String.{string_bytes}
use Rattle.adr_script.specs.Bodies.{keys_text}
use Rattle.adr_script.proofs.bodies.probes_line.Given as goal

abbrev pub invariant-loop-key : goal.invariant-loop-key
invariant-loop-key l = string_bytes l.text ++ keys_text (drop l.key-index l.keys) ≡ string_bytes l.initial.text ++ keys_text l.keys
