use Rattle.std.proofs.Common.{arith}
use Rattle.adr_db.proofs.Common.{state, HasCleanDisk}
use Rattle.adr_db.proofs.Rises.{waiting_rises}
use Rattle.adr_db.proofs.Results.{ok_from}
use Rattle.adr_outbox.specs.Settled.{after_failed}
use Rattle.adr_outbox.proofs.Failing.{failed_turns}
use Rattle.adr_outbox.proofs.settle.failed.Goals as goal

pub returns-clause-turns : goal.returns-clause-turns
returns-clause-turns g c clean =
    let old = state g.S.Store c.args.tx.now.conn.now in
    let new = state g.S.Store c.forget_remote.new.tx.conn.now in
    let before = c.args.meta.now in
    let n = c.args.number in
    let now = c.args.now in
    let entry = c.in_ok-entry.entry in
    let settled : HasCleanDisk (state g.S.Store c.after_failure.new.tx.conn.now) = omega (arith, c.forget_remote.ensures.lent.stays.crash.clean) in
    let early : HasCleanDisk (state g.S.Store c.entry_leased.new.tx.conn.now) = omega (arith, settled, c.after_failure.ensures.lent.stays.crash.clean) in
    ok_from c.forget_remote.result (λ x forgets kept was same.
    let found = c.in_ok-entry.ensures.finds early kept was in
    let left = c.in_ok-after_failure.ensures.leaves settled kept found.1 in
    failed_turns now n c.args.lease c.args.forget entry before c.after_failure.new.meta kept (waiting_rises kept old was) found.0 same c.in_ok-after_failure.ensures.counted new (forgets (after_failed now n entry kept) left))
    (c.forget_remote.ensures.leaves clean)
