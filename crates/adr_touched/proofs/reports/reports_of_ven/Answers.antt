use Rattle.std.proofs.Common.{arith}
use Rattle.std.specs.Prelude.{◌==◌}
use Rattle.std.specs.List.{list_any}
use Rattle.adr_state.specs.Portfolios.{is_of_ven}
use Rattle.adr_db.proofs.Common.{state, HasCleanDisk}
use Rattle.adr_db.proofs.Results.{ok_then}
use Rattle.adr_refresh.specs.Touched.{report_by}
use Rattle.adr_touched.proofs.Found.{resource_there}
use Rattle.adr_touched.proofs.Gathered.{weaker}
use Rattle.adr_touched.proofs.Tested.{by_resource}
use Rattle.adr_touched.proofs.reports.reports_of_ven.Goals as goal

pub returns-clause-finds : goal.returns-clause-finds
returns-clause-finds g c clean =
    let ven = c.args.ven in
    let early : HasCleanDisk (state g.S.Store c.read_resources_of.new.tx.conn.now) = omega (arith, c.reports_of_resources.ensures.lent.stays.crash.clean) in
    ok_then c.reports_of_resources.result (λ numbers finds kept was.
    let resources = c.in_ok-resources.ensures.finds early kept was in
    let found = finds kept resources.1 in
    (λ m there. found.0 m (weaker report_by by_resource kept.portfolio.reports (is_of_ven ven kept.portfolio.resources) (λ m. list_any (λ n. m == n) c.in_ok-resources.resources) (λ m is. rw resources.0 (resource_there kept.portfolio ven m is)) m there), found.1)) (c.reports_of_resources.ensures.finds clean)
