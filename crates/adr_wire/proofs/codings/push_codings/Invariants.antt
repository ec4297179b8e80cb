use Rattle.std.proofs.Common.{◌≡◌, ◌++◌, map, drop}
use Rattle.std.specs.List.{flat_map}
use Rattle.adr_wire.specs.Codings.{coding_in_part}
use Rattle.adr_wire.proofs.codings.push_codings.Given as goal

abbrev pub invariant-loop-part : goal.invariant-loop-part
invariant-loop-part l =
    map (λ s. s.now) l.found.items ++ flat_map coding_in_part (map (λ s. s.now) (drop l.part-index l.parts))
    ≡ map (λ s. s.now) l.initial.found.items ++ flat_map coding_in_part (map (λ s. s.now) l.parts)
