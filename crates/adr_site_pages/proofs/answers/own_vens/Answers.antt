use Rattle.std.proofs.Common.{ℕ, Ok, Option, map, ap, sym, arith, ◌∙◌}
use Rattle.adr_db.proofs.Common.{state, HasCleanDisk}
use Rattle.adr_text.specs.Refusals.{◌>>=◌}
use Rattle.adr_view.specs.declared.sight.Sight.TheVariants.{Of}
use Rattle.adr_db.specs.Images.{image_kept}
use Rattle.adr_queries.specs.declared.answer.Answer.TheVariants as answer
use Rattle.adr_queries.specs.Listings.{page_of, vens_in_sight}
use Rattle.adr_queries.specs.Roles.{sight_by}
use Rattle.adr_site_pages.specs.Laws.{told_ven}
use Rattle.adr_site_pages.proofs.SiteLemmas.{vens_told}
use Rattle.adr_site_pages.proofs.answers.own_vens.Goals as goal

pub returns-in_default-clause-refuses : goal.returns-in_default-clause-refuses
returns-in_default-clause-refuses g c clean kept was =
    let none = (rw (c.in_ok-ven.was, c.in_default.is) at (c.ven_at.ensures.finds clean)) kept was in
    ap (λ (ven : Option ℕ). sight_by ven >>= λ sight. Ok (answer.List (page_of c.args.page (vens_in_sight (image_kept kept).base sight)))) (sym none.0)

pub returns-clause-finds : goal.returns-clause-finds
returns-clause-finds g c clean kept was =
    let page = c.args.page in
    let base = (image_kept kept).base in
    let early : HasCleanDisk (state g.S.Store c.ven_at.new.tx.conn.now) = omega (arith, clean, c.own_vens_page.ensures.lent.stays.crash.clean) in
    let ven = (rw (c.in_ok-ven.was, c.in-Some.is) at (c.ven_at.ensures.finds early)) kept was in
    let rows = c.in_ok-rows.ensures.finds clean kept ven.1 in (
      ap (λ (ven : Option ℕ). sight_by ven >>= λ sight. Ok (answer.List (page_of page (vens_in_sight base sight)))) (sym ven.0)
          ∙ ap (λ objects. Ok (answer.List objects)) (vens_told base (Of c.in-Some.ven) page ∙ sym (c.in_ok-objects_of.ensures ∙ ap (map told_ven) rows.0)),
      rows.1,
    )
