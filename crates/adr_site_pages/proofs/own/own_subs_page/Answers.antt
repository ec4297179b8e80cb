use Rattle.std.proofs.Common.{ℕ, List, ap, arith, drop, take, ◌∙◌}
use Rattle.adr_db.proofs.Common.{state, HasCleanDisk, Sub, is_sub_of}
use Rattle.adr_db.proofs.Results.{ok_then}
use Rattle.adr_db.proofs.Rises.{subs_rise}
use Rattle.adr_site_pages.specs.ByNumbers.{entries_at}
use Rattle.adr_site_pages.specs.Sites.{sub_kept, wanted_among}
use Rattle.adr_site_pages.proofs.NumberLemmas.{passing_at}
use Rattle.adr_site_pages.proofs.SiteLemmas.{own_subs_seen}
use Rattle.adr_site_pages.proofs.own.own_subs_page.Goals as goal

pub returns-clause-finds : goal.returns-clause-finds
returns-clause-finds g c clean =
    let early : HasCleanDisk (state g.S.Store c.read_subs_of.new.tx.conn.now) = omega (arith, clean, c.page_at.ensures.lent.stays.crash.clean) in
    let page = c.args.page in
    ok_then c.page_at.result (λ rows finds kept was.
    let numbers = c.in_ok-numbers.ensures.finds early kept was in
    let found = finds kept numbers.1 in
    let all =
    ap (λ ns. entries_at sub_kept ns kept) (c.as_slice.ensures ∙ numbers.0)
    ∙ passing_at (λ (s : ℕ × Sub). is_sub_of c.args.ven s.1) kept.portfolio.subs (subs_rise kept (state g.S.Store c.args.tx.now.conn.now) was) ∙ own_subs_seen c.args.ven kept.portfolio in
    (found.0 ∙ ap (λ (subs : List (ℕ × Sub)). take page.limit (drop page.skip (wanted_among c.args.filter.now subs))) all, found.1)) (c.page_at.ensures.finds clean)
