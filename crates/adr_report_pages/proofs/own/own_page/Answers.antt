use Rattle.std.proofs.Common.{arith, ◌∙◌}
use Rattle.adr_db.proofs.Common.{state, HasCleanDisk}
use Rattle.adr_db.proofs.Results.{ok_then}
use Rattle.adr_db.proofs.Rises.{reports_rise}
use Rattle.adr_db.specs.Images.{image_kept}
use Rattle.adr_view.specs.declared.sight.Sight.TheVariants.{Of}
use Rattle.adr_queries.specs.Reported.{sees_report}
use Rattle.adr_report_pages.proofs.OwnLemmas.{page_first}
use Rattle.adr_report_pages.proofs.own.own_page.Goals as goal

pub returns-clause-finds : goal.returns-clause-finds
returns-clause-finds g c clean =
    let early : HasCleanDisk (state g.S.Store c.own_numbers.new.tx.conn.now) = omega (arith, clean, c.page_at.ensures.lent.stays.crash.clean) in
    ok_then c.page_at.result (λ rows finds kept was.
    let numbers = c.in_ok-numbers.ensures.finds early kept was in
    let found = finds kept numbers.1 in
    let first = page_first kept (sees_report (image_kept kept).base (Of c.args.ven)) c.args.filter.now c.args.page c.most_of-most.result c.in_ok-numbers.numbers (reports_rise kept (state g.S.Store c.args.tx.now.conn.now) was) c.most_of-most.ensures numbers.0 in
    (found.0 ∙ first, found.1)) (c.page_at.ensures.finds clean)
