use Rattle.std.proofs.Common.{ℕ, Ok, Option, map, ap, sym, arith, ◌∙◌}
use Rattle.adr_db.proofs.Common.{state, HasCleanDisk}
use Rattle.adr_text.specs.Refusals.{◌>>=◌}
use Rattle.adr_view.specs.declared.sight.Sight.TheVariants.{Of}
use Rattle.adr_queries.specs.declared.answer.Answer.TheVariants as answer
use Rattle.adr_queries.specs.Filters.{wanted_subs}
use Rattle.adr_queries.specs.Listings.{page_of}
use Rattle.adr_queries.specs.Roles.{sight_by}
use Rattle.adr_queries.specs.Subscribed.{subs_in_sight}
use Rattle.adr_site_pages.specs.Laws.{told_sub}
use Rattle.adr_site_pages.proofs.SiteLemmas.{subs_told}
use Rattle.adr_site_pages.proofs.answers.own_subs.Goals as goal

pub returns-in_default-clause-refuses : goal.returns-in_default-clause-refuses
returns-in_default-clause-refuses g c clean kept was =
    let none = (rw (c.in_ok-ven.was, c.in_default.is) at (c.ven_at.ensures.finds clean)) kept was in
    ap (λ (ven : Option ℕ). sight_by ven >>= λ sight. Ok (answer.List (page_of c.args.page (wanted_subs c.args.filter.now (subs_in_sight sight kept.portfolio))))) (sym none.0)

pub returns-clause-finds : goal.returns-clause-finds
returns-clause-finds g c clean kept was =
    let page = c.args.page in
    let wanted = c.args.filter.now in
    let early : HasCleanDisk (state g.S.Store c.ven_at.new.tx.conn.now) = omega (arith, clean, c.own_subs_page.ensures.lent.stays.crash.clean) in
    let ven = (rw (c.in_ok-ven.was, c.in-Some.is) at (c.ven_at.ensures.finds early)) kept was in
    let rows = c.in_ok-rows.ensures.finds clean kept ven.1 in (
      ap (λ (ven : Option ℕ). sight_by ven >>= λ sight. Ok (answer.List (page_of page (wanted_subs wanted (subs_in_sight sight kept.portfolio))))) (sym ven.0)
          ∙ ap (λ objects. Ok (answer.List objects)) (subs_told kept.portfolio (Of c.in-Some.ven) wanted page ∙ sym (c.in_ok-objects_of.ensures ∙ ap (map told_sub) rows.0)),
      rows.1,
    )
