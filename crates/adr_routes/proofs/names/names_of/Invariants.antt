use Rattle.std.proofs.Common.{◌≡◌, ◌++◌, map, drop}
use Rattle.adr_routes.proofs.NameSteps.{named}
use Rattle.adr_routes.proofs.names.names_of.Given as goal

abbrev pub invariant-loop-i : goal.invariant-loop-i
invariant-loop-i l = map (λ s. s.now) l.names.items ++ named (drop l.i l.texts) (drop l.i l.given) ≡ named l.texts l.given
