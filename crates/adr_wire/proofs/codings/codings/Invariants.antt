use Rattle.std.proofs.Common.{◌≡◌, ◌++◌, map, drop}
use Rattle.adr_wire.specs.Codings.{codings}
use Rattle.adr_wire.proofs.codings.codings.Given as goal

abbrev pub invariant-loop-value : goal.invariant-loop-value
invariant-loop-value l = map (λ s. s.now) l.found.items ++ codings (map (λ s. s.now) (drop l.value-index l.values)) ≡ codings (map (λ s. s.now) l.values)
