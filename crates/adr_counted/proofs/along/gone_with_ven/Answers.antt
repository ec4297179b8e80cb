use Rattle.std.proofs.Common.{arith}
use Rattle.adr_db.proofs.Common.{state, HasCleanDisk}
use Rattle.adr_db.proofs.Rises.{resources_rise}
use Rattle.adr_counted.proofs.Going.{ven_goes}
use Rattle.adr_counted.proofs.along.gone_with_ven.Goals as goal

pub returns-clause-finds : goal.returns-clause-finds
returns-clause-finds g c clean kept was =
    let counted : HasCleanDisk (state g.S.Store c.along_each.new.tx.conn.now) = omega (arith, c.read_subs_of.ensures.lent.stays.crash.clean) in
    let early : HasCleanDisk (state g.S.Store c.read_resources_of.new.tx.conn.now) = omega (arith, counted, c.along_each.ensures.lent.stays.crash.clean) in
    let resources = c.in_ok-resources.ensures.finds early kept was in
    let along = c.in_ok-along.ensures.finds counted kept resources.1 in
    let subs = c.in_ok-subs.ensures.finds clean kept along.1 in
    let up = resources_rise kept (state g.S.Store c.args.tx.now.conn.now) was in
    (λ there. rw (c.len.ensures, c.len-2.ensures) (ven_goes kept.portfolio c.args.ven c.in_ok-along.along c.in_ok-resources.resources c.in_ok-subs.subs up resources.0 (rw c.as_slice.ensures at along.0) subs.0 there), subs.1)
