use Rattle.std.proofs.Common.{arith}
use Rattle.std.specs.Prelude.{◌==◌}
use Rattle.adr_db.proofs.Common.{state, HasCleanDisk}
use Rattle.adr_refresh.specs.Touched.{shares_in, events_frozen_in}
use Rattle.adr_touched.specs.Answers.{live_events}
use Rattle.adr_touched.proofs.FrozenFound.{both_have}
use Rattle.adr_touched.proofs.events.events_of_resource.Goals as goal

pub returns-clause-finds : goal.returns-clause-finds
returns-clause-finds g c clean kept was =
    let n = c.args.resource in
    let early : HasCleanDisk (state g.S.Store c.events_shared_by.new.tx.conn.now) = omega (arith, c.events_frozen_for.ensures.lent.stays.crash.clean) in
    let shared = c.in_ok-shared.ensures.finds early kept was in
    let frozen = c.in_ok-frozen.ensures.finds clean kept shared.1 in
    (rw c.in_ok-both.ensures (both_have c.in_ok-shared.shared c.in_ok-frozen.frozen (live_events (shares_in kept.portfolio n) kept) (events_frozen_in (λ m. m == n) kept.portfolio) shared.0 frozen.0), frozen.1)
