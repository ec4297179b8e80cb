use Rattle.std.proofs.Common.{arith}
use Rattle.std.specs.Prelude.{bytes_eq}
use Rattle.adr_db.proofs.Common.{state, HasCleanDisk}
use Rattle.adr_db.proofs.Results.{ok_then}
use Rattle.adr_touched.specs.Answers.{live_events}
use Rattle.adr_touched.proofs.FrozenFound.{left_has}
use Rattle.adr_touched.proofs.events.events_by_share.Goals as goal

pub returns-clause-finds : goal.returns-clause-finds
returns-clause-finds g c clean =
    let program = c.args.program.now in
    let early : HasCleanDisk (state g.S.Store c.events_of_program.new.tx.conn.now) = omega (arith, c.without_frozen.ensures.lent.stays.crash.clean) in
    ok_then c.without_frozen.result (λ left finds kept was.
    let keys = c.in_ok-keys.ensures.finds early kept was in
    let found = finds kept keys.1 in
    (rw found.0 (left_has kept.portfolio c.in_ok-keys.keys (live_events (λ p. bytes_eq p program) kept) keys.0), found.1)) (c.without_frozen.ensures.finds clean)
