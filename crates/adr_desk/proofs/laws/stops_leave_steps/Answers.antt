use Rattle.std.proofs.Math.Logic.{∥∥₁_map}
use Rattle.adr_db.proofs.Common.{state}
use Rattle.adr_db.specs.ReadBack.{state_in}
use Rattle.adr_desk.specs.Desks.{shown}
use Rattle.adr_desk.specs.Steps.{LeftStepped}
use Rattle.adr_desk.proofs.Restarts.{before_or_after}
use Rattle.adr_desk.proofs.laws.stops_leave_steps.Goals as goal

pub returns : goal.returns
returns g c after step sound survives clean trees may =
    let old = state g.S.Store c.args.desk.now.conn in
    ∥∥₁_map (c.sound_is_held.ensures sound) (λ was. before_or_after old (shown g.S.Store after) (LeftStepped step) (state_in old) survives clean (c.rests.ensures.leaves sound) was trees may)
