use Rattle.std.proofs.Common.{refl}
use Rattle.adr_objects.specs.Fields.{setpoint_in}
use Rattle.adr_objects.proofs.laws.fractions_are_never_setpoints.Goals as goal

pub returns : goal.returns
unfolding setpoint_in
returns c = λ x. refl
