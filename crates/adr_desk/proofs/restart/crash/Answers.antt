use Rattle.std.proofs.Common.{ap, subst}
use Rattle.adr_db.proofs.Common.{Held, state, HasCleanDisk}
use Rattle.std.specs.Prelude.{IsTrue, IfSome}
use Rattle.adr_state.specs.declared.limits.Settings.{Settings}
use Rattle.adr_desk.specs.Desks.{shown}
use Rattle.adr_desk.specs.Restarts.{Finds}
use Rattle.adr_desk.proofs.restart.crash.Goals as goal

-- the connection that is given up is that of the desk
pub returns : goal.returns
returns g c =
    let same = ap (λ (p : Settings × Held g.row.S.Denot). p.1) c.into_parts-settings.ensures.same in
    subst (λ (conn : Held g.row.S.Denot). IfSome c.crash_of.result (λ again. HasCleanDisk (shown g.S.Store again) → IsTrue (shown g.S.Store again).is_open → HasCleanDisk (state g.S.Store conn) × Finds g.S.Store (state g.S.Store conn).may_leave again)) same c.crash_of.ensures
