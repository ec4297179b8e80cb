use Rattle.std.proofs.Common.{ℕ, Ok, Option, map, ap, sym, arith, ◌∙◌}
use Rattle.adr_db.proofs.Common.{state, HasCleanDisk}
use Rattle.adr_text.specs.Refusals.{◌>>=◌}
use Rattle.adr_view.specs.declared.sight.Sight.TheVariants.{Of}
use Rattle.adr_held.specs.Held.{kept_of}
use Rattle.adr_queries.specs.declared.answer.Answer.TheVariants as answer
use Rattle.adr_queries.specs.Filters.{wanted_reports}
use Rattle.adr_queries.specs.Listings.{page_of}
use Rattle.adr_queries.specs.Replies.{reply}
use Rattle.adr_queries.specs.Reported.{reports_in_sight}
use Rattle.adr_queries.specs.Roles.{sight_by}
use Rattle.adr_report_pages.specs.Objects.{object_kept}
use Rattle.adr_report_pages.proofs.ReportLemmas.{reports_are_rows}
use Rattle.adr_desk.proofs.report_listing.own_in.Goals as goal

pub returns-in_default-clause-refuses : goal.returns-in_default-clause-refuses
unfolding reply
returns-in_default-clause-refuses g c clean held was =
    let none = (rw (c.in_ok-ven.was, c.in_default.is) at (c.ven_at.ensures.finds clean)) (kept_of held) was.keeps in
    ap (λ (ven : Option ℕ). sight_by ven >>= λ sight. Ok (answer.List (page_of c.args.part (wanted_reports c.args.filter.now (reports_in_sight held sight))))) (sym none.0)

pub returns-clause-tells : goal.returns-clause-tells
unfolding reply
returns-clause-tells g c clean held was =
    let wanted = c.args.filter.now in
    let part = c.args.part in
    let late : HasCleanDisk (state g.S.Store c.own_page.new.tx.conn.now) = omega (arith, clean, c.objects_of.ensures.lent.stays.crash.clean) in
    let early : HasCleanDisk (state g.S.Store c.ven_at.new.tx.conn.now) = omega (arith, late, c.own_page.ensures.lent.stays.crash.clean) in
    let ven = (rw (c.in_ok-ven.was, c.in-Some.is) at (c.ven_at.ensures.finds early)) (kept_of held) was.keeps in
    let rows = c.in_ok-rows.ensures.finds late (kept_of held) ven.1 in
    let objects = c.in_ok-objects.ensures.finds clean (kept_of held) rows.1 in
    ap (λ (ven : Option ℕ). sight_by ven >>= λ sight. Ok (answer.List (page_of part (wanted_reports wanted (reports_in_sight held sight))))) (sym ven.0)
    ∙ ap (λ objects. Ok (answer.List objects)) (reports_are_rows (state g.S.Store c.args.tx.now.conn.now) held (Of c.in-Some.ven) wanted part c.in_ok-objects.objects was (objects.0 ∙ ap (map (object_kept (kept_of held))) rows.0))
