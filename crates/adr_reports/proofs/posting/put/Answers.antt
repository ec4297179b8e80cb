use Rattle.std.proofs.Common.{ap, sym, subst, arith}
use Rattle.adr_db.proofs.Common.{state, HasCleanDisk, number_in, IsRefusalOf}
use Rattle.adr_db.specs.Bases.{kept_beside}
use Rattle.adr_db.proofs.Results.{ok_then, err_then}
use Rattle.adr_counted.proofs.Decided.{carried_as}
use Rattle.adr_counted.proofs.Known.{found_there}
use Rattle.adr_reports.specs.Decided.{replaced}
use Rattle.adr_reports.proofs.posting.put.Goals as goal

pub returns-clause-carries : goal.returns-clause-carries
returns-clause-carries g c clean =
    let early : HasCleanDisk (state g.S.Store c.report_with_id.new.tx.conn.now) = omega (arith, c.put_found.ensures.lent.stays.crash.clean) in
    ok_then c.put_found.result (λ x puts beside base was same.
    let found = c.in_ok-found.ensures.finds early (kept_beside beside base) was in
    carried_as (puts beside base found.1 same (found_there base.portfolio.reports (number_in 112 c.args.id.now) c.in_ok-found.found found.0)) (ap (λ found. replaced c.args.sight c.args.revision found c.args.report.now base.mirror base.portfolio) (sym found.0))) (c.put_found.ensures.carries clean)

pub returns-clause-refuses : goal.returns-clause-refuses
returns-clause-refuses g c clean =
    let early : HasCleanDisk (state g.S.Store c.report_with_id.new.tx.conn.now) = omega (arith, clean, c.put_found.ensures.lent.stays.crash.clean) in
    err_then c.put_found.result (λ e refuses beside base was same.
    let found = c.in_ok-found.ensures.finds early (kept_beside beside base) was in
    subst (λ found. IsRefusalOf e (replaced c.args.sight c.args.revision found c.args.report.now base.mirror base.portfolio)) found.0 (refuses beside base found.1 same)) (c.put_found.ensures.refuses clean)
