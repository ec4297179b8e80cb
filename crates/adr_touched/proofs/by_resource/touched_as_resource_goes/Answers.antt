use Rattle.std.proofs.Common.{arith}
use Rattle.adr_state.specs.Portfolios.{DropResource}
use Rattle.adr_db.specs.Bases.{kept_beside}
use Rattle.adr_db.proofs.Common.{state, HasCleanDisk}
use Rattle.adr_touched.proofs.Edits.{shared_covered}
use Rattle.adr_touched.proofs.by_resource.touched_as_resource_goes.Goals as goal

pub returns-clause-finds : goal.returns-clause-finds
returns-clause-finds g c clean beside base holds =
    let early : HasCleanDisk (state g.S.Store c.events_of_resource.new.tx.conn.now) = omega (arith, c.reports_on.ensures.lent.stays.crash.clean) in
    let keys = c.in_ok-keys.ensures.finds early (kept_beside beside base) holds in
    let reports = c.in_ok-reports.ensures.finds clean (kept_beside beside base) keys.1 in
    (rw (c.in_ok-with_rollups.ensures, c.in_ok-events.ensures, c.as_slice.ensures, c.new.ensures) (shared_covered beside base (DropResource c.args.resource) c.in_ok-keys.keys c.in_ok-reports.reports keys.0 reports.0), reports.1)
