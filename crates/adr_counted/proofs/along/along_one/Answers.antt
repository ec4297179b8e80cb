use Rattle.std.proofs.Common.{ap, length, filter, ◌∙◌, arith}
use Rattle.std.specs.Prelude.{◌==◌}
use Rattle.adr_sql.proofs.Common.{length-map}
use Rattle.adr_db.proofs.Common.{state, HasCleanDisk}
use Rattle.adr_state.specs.Portfolios.{reported_on}
use Rattle.adr_counted.specs.declared.along.Along.{Along}
use Rattle.adr_counted.proofs.along.along_one.Goals as goal

pub returns-clause-finds : goal.returns-clause-finds
returns-clause-finds g c clean kept was =
    let n = c.args.resource in
    let later : HasCleanDisk (state g.S.Store c.read_reports_on.new.tx.conn.now) = omega (arith, c.read_frozen_of.ensures.lent.stays.crash.clean) in
    let early : HasCleanDisk (state g.S.Store c.read_shares_of.new.tx.conn.now) = omega (arith, later, c.read_reports_on.ensures.lent.stays.crash.clean) in
    let shares = c.in_ok-shares.ensures.finds early kept was in
    let reports = c.in_ok-reports.ensures.finds later kept shares.1 in
    let frozen = c.in_ok-frozen.ensures.finds clean kept reports.1 in
    let many_shares = c.len.ensures ∙ ap length shares.0 ∙ length-map (filter (λ s. s.0.resource == n) kept.portfolio.shares) (λ s. s.0) in
    let many_reports = c.len-2.ensures ∙ ap length reports.0 ∙ length-map (filter (λ r. reported_on r == n) kept.portfolio.reports) (λ r. r.0) in
    let many_frozen = c.len-3.ensures ∙ ap length frozen.0 ∙ length-map (filter (λ s. s.0.resource == n) kept.portfolio.frozen_shares) (λ s. s.0) in
    ((λ i. let along : Along = record { shares = many_shares i; reports = many_reports i; frozen = many_frozen i } in along), frozen.1)
