use Rattle.std.proofs.Common.{filter, ◌∙◌}
use Rattle.adr_db.proofs.Results.{ok_then}
use Rattle.adr_lent.specs.Picks.{picks}
use Rattle.adr_lent.proofs.Picks.{page_again}
use Rattle.adr_lent.proofs.page.page_of.Goals as goal

pub returns-clause-finds : goal.returns-clause-finds
returns-clause-finds g c clean =
    ok_then c.page_in.result
    (λ rows finds kept was.
    let it = finds kept was in
    (it.0 ∙ page_again c.args.page (filter (picks c.args.picked.now) kept.shown), it.1))
    (c.page_in.ensures.finds clean)
