use Rattle.std.proofs.Common.{arith, ◌∙◌}
use Rattle.std.specs.Prelude.{◌==◌}
use Rattle.adr_db.proofs.Common.{state, HasCleanDisk}
use Rattle.adr_db.proofs.Results.{ok_then}
use Rattle.adr_touched.proofs.Statements.{reported_are}
use Rattle.adr_touched.proofs.by_resource.reports_on.Goals as goal

pub returns-clause-finds : goal.returns-clause-finds
returns-clause-finds g c clean =
    let early : HasCleanDisk (state g.S.Store c.read_reports_on.new.tx.conn.now) = omega (arith, c.reports_at.ensures.lent.stays.crash.clean) in
    ok_then c.reports_at.result (λ olds finds kept was.
    let numbers = c.in_ok-numbers.ensures.finds early kept was in
    let found = finds kept numbers.1 in
    (record { read = c.in_ok-numbers.numbers; among = λ m there. rw (numbers.0 ∙ reported_are (λ m. m == c.args.resource) kept.portfolio.reports) there; are = found.0 }, found.1)) (c.reports_at.ensures.finds clean)
