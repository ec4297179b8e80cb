use Rattle.std.proofs.Common.{ℕ, List, ap, arith, drop, take, ◌∙◌}
use Rattle.std.specs.Prelude.{◌==◌}
use Rattle.adr_db.proofs.Common.{state, HasCleanDisk, Resource}
use Rattle.adr_db.proofs.Results.{ok_then}
use Rattle.adr_db.proofs.Rises.{resources_rise}
use Rattle.adr_site_pages.specs.ByNumbers.{entries_at}
use Rattle.adr_site_pages.specs.Sites.{resource_kept}
use Rattle.adr_site_pages.proofs.NumberLemmas.{all_pass, passing_behind}
use Rattle.adr_site_pages.proofs.own.resources_page.Goals as goal

pub returns-clause-finds : goal.returns-clause-finds
returns-clause-finds g c clean =
    let early : HasCleanDisk (state g.S.Store c.read_resources_of.new.tx.conn.now) = omega (arith, clean, c.page_at.ensures.lent.stays.crash.clean) in
    let page = c.args.page in
    ok_then c.page_at.result (λ rows finds kept was.
    let numbers = c.in_ok-numbers.ensures.finds early kept was in
    let found = finds kept numbers.1 in
    let later = c.deref.ensures.value ∙ c.in_ok-later.ensures ∙ ap (drop page.skip) numbers.0 in
    let all =
    all_pass (entries_at resource_kept c.deref.result.now kept) ∙ ap (λ ns. entries_at resource_kept ns kept) later
    ∙ passing_behind (λ (r : ℕ × Resource). r.1.ven == c.args.ven) kept.portfolio.resources (resources_rise kept (state g.S.Store c.args.tx.now.conn.now) was) page.skip in
    (found.0 ∙ ap (λ (rows : List (ℕ × Resource)). take page.limit rows) all, found.1)) (c.page_at.ensures.finds clean)
