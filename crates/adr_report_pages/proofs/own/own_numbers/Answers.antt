use Rattle.std.proofs.Common.{arith, subst}
use Rattle.adr_db.proofs.Common.{state, HasCleanDisk}
use Rattle.adr_db.proofs.Results.{ok_then}
use Rattle.adr_db.proofs.Rises.{resources_rise}
use Rattle.adr_db.specs.Images.{image_kept}
use Rattle.adr_report_pages.specs.Columns.{on_any, with_resource}
use Rattle.adr_report_pages.specs.Firsts.{HaveFirst}
use Rattle.adr_report_pages.proofs.OwnLemmas.{own_seen}
use Rattle.adr_report_pages.proofs.own.own_numbers.Goals as goal

pub returns-clause-finds : goal.returns-clause-finds
returns-clause-finds g c clean =
    let early : HasCleanDisk (state g.S.Store c.read_resources_of.new.tx.conn.now) = omega (arith, clean, c.numbers_on.ensures.lent.stays.crash.clean) in
    ok_then c.numbers_on.result (λ numbers finds kept was.
    let resources = c.in_ok-resources.ensures.finds early kept was in
    let found = finds kept resources.1 in
    let their = subst (λ ns. HaveFirst c.args.most (λ r. on_any ns (with_resource r)) kept.portfolio.reports numbers) resources.0 found.0 in
    (own_seen c.args.most (image_kept kept).base c.args.ven numbers (resources_rise kept (state g.S.Store c.args.tx.now.conn.now) was) their, found.1)) (c.numbers_on.ensures.finds clean)
