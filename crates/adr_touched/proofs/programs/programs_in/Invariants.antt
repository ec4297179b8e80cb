use Rattle.std.proofs.Common.{◌≡◌, map}
use Rattle.adr_touched.proofs.programs.programs_in.Given as goal

abbrev pub invariant-keys : goal.invariant-keys
invariant-keys l = l.programs ≡ map (λ key. key.program) l.yielded
