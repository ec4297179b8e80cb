use Rattle.std.proofs.Common.{arith}
use Rattle.adr_db.proofs.Common.{state, HasCleanDisk}
use Rattle.adr_db.proofs.Results.{ok_then}
use Rattle.adr_touched.proofs.by_ven.reports_with.Goals as goal

pub returns-clause-finds : goal.returns-clause-finds
returns-clause-finds g c clean =
    let early : HasCleanDisk (state g.S.Store c.reports_of_ven.new.tx.conn.now) = omega (arith, c.reports_at.ensures.lent.stays.crash.clean) in
    ok_then c.reports_at.result (λ olds finds kept was.
    let numbers = c.in_ok-numbers.ensures.finds early kept was in
    let found = finds kept numbers.1 in
    (record { read = c.in_ok-numbers.numbers; among = numbers.0; are = found.0 }, found.1)) (c.reports_at.ensures.finds clean)
