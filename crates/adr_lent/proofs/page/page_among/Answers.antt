use Rattle.std.proofs.Common.{ap, filter, take, drop, ◌∙◌}
use Rattle.adr_db.proofs.Results.{ok_then}
use Rattle.adr_lent.specs.Pages.{wanted_among}
use Rattle.adr_lent.specs.Picks.{picks}
use Rattle.adr_lent.proofs.Picks.{shown_to}
use Rattle.adr_lent.proofs.page.page_among.Goals as goal

pub returns-clause-finds : goal.returns-clause-finds
returns-clause-finds g c clean =
    ok_then c.page_in.result
    (λ rows finds kept was.
    let it = finds kept was in
    (it.0 ∙ ap (λ entries. take c.args.page.limit (drop c.args.page.skip (wanted_among c.args.filter.now entries))) (ap (λ p. filter (picks p) kept.shown) c.shown_to-picked.ensures ∙ shown_to c.args.ven kept.shown), it.1))
    (c.page_in.ensures.finds clean)
