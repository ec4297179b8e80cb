use Rattle.std.proofs.Common.{◌≡◌, ◌++◌, map, length}
use Rattle.adr_wire.specs.Cuts.{parts}
use Rattle.adr_wire.proofs.cuts.parts.Given as goal

-- the parts so far, and those of what is left
abbrev pub invariant-parts : goal.invariant-parts
invariant-parts l = map (λ s. s.now) l.all.items ++ parts l.separator l.rest ≡ parts l.separator l.bytes

abbrev pub decreases-parts : goal.decreases-parts
decreases-parts l = length l.rest
