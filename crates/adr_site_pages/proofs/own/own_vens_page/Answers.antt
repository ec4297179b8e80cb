use Rattle.std.proofs.Common.{ℕ, List, [], Option, Some, None, ap, drop, refl, sym, take, ◌≡◌, ◌∙◌}
use Rattle.std.specs.List.{cons_option}
use Rattle.std.specs.Option.{option_to_list}
use Rattle.adr_db.proofs.Common.{state, Ven}
use Rattle.adr_db.proofs.Results.{ok_then}
use Rattle.adr_db.proofs.Rises.{vens_rise}
use Rattle.adr_site_pages.proofs.NumberLemmas.{all_pass, one_row}
use Rattle.adr_site_pages.specs.ByNumbers.{entry_at}
use Rattle.adr_site_pages.specs.Sites.{ven_kept}
use Rattle.adr_site_pages.proofs.own.own_vens_page.Goals as goal

alone : {X : Type 0} (o : Option X) → cons_option o [] ≡ option_to_list o
alone None = refl
alone (Some x) = refl

pub returns-clause-finds : goal.returns-clause-finds
returns-clause-finds g c clean =
    let page = c.args.page in
    let ven = c.args.ven in
    ok_then c.page_at.result (λ rows finds kept was.
    let found = finds kept was in
    let one = entry_at ven_kept ven kept in
    let itself = all_pass (cons_option one []) ∙ alone one ∙ sym (one_row ven kept.portfolio.vens (vens_rise kept (state g.S.Store c.args.tx.now.conn.now) was)) in
    (found.0 ∙ ap (λ (vens : List (ℕ × Ven)). take page.limit (drop page.skip vens)) itself, found.1)) (c.page_at.ensures.finds clean)
