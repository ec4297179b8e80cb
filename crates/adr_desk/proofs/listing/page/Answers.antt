use Rattle.std.proofs.Common.{◌≡◌, IsTrue, Ok, map, ap, ◌∙◌}
use Rattle.adr_db.proofs.Common.{state, HasCleanDisk}
use Rattle.adr_text.specs.Refusals.{◌>>=◌}
use Rattle.adr_objects.specs.declared.kind.Kind.TheVariants as kind
use Rattle.adr_held.specs.Held.{kept_of}
use Rattle.adr_db.proofs.Results.{handed_on, then_refused}
use Rattle.adr_queries.specs.declared.answer.Answer.TheVariants as answer
use Rattle.adr_queries.specs.Filters.{wanted_of}
use Rattle.adr_queries.specs.Listings.{page_of}
use Rattle.adr_queries.specs.Replies.{reply}
use Rattle.adr_queries.specs.Roles.{sight_of}
use Rattle.adr_queries.specs.Shown.{objects_in_sight}
use Rattle.adr_lent.proofs.Streams.{clean_before}
use Rattle.adr_pages.specs.Objects.{object_kept}
use Rattle.adr_pages.proofs.EventLemmas.{events_are_rows}
use Rattle.adr_desk.proofs.Transactions.{held_now}
use Rattle.adr_desk.proofs.listing.page.Goals as goal

pub returns-in_err-sight-clause-refuses : goal.returns-in_err-sight-clause-refuses
unfolding reply
returns-in_err-sight-clause-refuses g c clean =
    let e = c.in_err-sight.field-0.0 in
    handed_on _ c.from_residual.result e c.from_residual.ensures.1 (λ held was. then_refused e (sight_of held.base c.args.role.now) _ (c.in_err-sight.ensures.refuses clean held was))

pub returns-clause-tells : goal.returns-clause-tells
unfolding reply
returns-clause-tells g c clean held was =
    let role = c.args.role.now in
    let wanted = c.args.filter.now in
    let part = c.args.part in
    let sight = c.in_ok-sight.sight in
    let first = state g.S.Store c.args.conn.now in
    let then = state g.S.Store c.seen.new.conn in
    let later = state g.S.Store c.rows_of.new.conn in
    let clean_later : HasCleanDisk later = clean_before later (state g.S.Store c.objects_in.new.conn) _ c.objects_in.ensures.dropped.crash clean in
    let clean_then : HasCleanDisk then = clean_before then later _ c.rows_of.ensures.dropped.crash clean_later in
    let opened : IsTrue then.is_open = c.in_ok-rows.ensures.was_open clean_later in
    let still = held_now held first then (c.seen.ensures.dropped.same clean_then opened).0 was in
    let sees : sight_of held.base role ≡ Ok sight = c.in_ok-sight.ensures.tells clean_then held was in
    let rows = c.in_ok-rows.ensures.finds clean_later (kept_of held) still.keeps in
    let objects = c.in_ok-objects.ensures.finds clean (kept_of held) rows.1 in
    ap (λ r. r >>= λ sight. Ok (answer.List (page_of part (wanted_of wanted (objects_in_sight held kind.Event sight))))) sees
    ∙ ap (λ objects. Ok (answer.List objects)) (events_are_rows first held sight wanted part c.in_ok-objects.objects was (objects ∙ ap (map (object_kept held.stamps)) rows.0))
