use Rattle.std.proofs.Common.{◌≡◌, [], ◌∷◌, Ok, refl, sym, ap, subst, ◌∙◌, arith}
use Rattle.std.proofs.lemmas.Result.{IfErr-weaker}
use Rattle.adr_db.proofs.Common.{state, HasCleanDisk, IsRefusalOf, Forbidden}
use Rattle.adr_text.specs.Refusals.{◌>>=◌}
use Rattle.adr_text.specs.declared.refusal.Refusal.TheVariants.{NotFound}
use Rattle.adr_state.specs.declared.state.State.{State}
use Rattle.adr_state.specs.ShownIds.{resource_part, event_part}
use Rattle.adr_held.specs.Held.{kept_of}
use Rattle.adr_held.proofs.HeldLemmas.{image_again}
use Rattle.adr_db.proofs.Results.{handed_on, ok_then, then_refused}
use Rattle.adr_queries.specs.Replies.{reply}
use Rattle.adr_queries.specs.Roles.{sight_of}
use Rattle.adr_queries.specs.Shown.{event_named}
use Rattle.adr_pages.proofs.EventLemmas.{event_is_row}
use Rattle.adr_desk.proofs.AskLemmas.{each_listed}
use Rattle.adr_desk.proofs.ask.one_event.Goals as goal

pub returns-in_err-sight-clause-refuses : goal.returns-in_err-sight-clause-refuses
unfolding reply
returns-in_err-sight-clause-refuses g c clean =
    let e = c.in_err-sight.field-0.0 in
    let role = c.args.role.now in
    handed_on _ c.from_residual.result e c.from_residual.ensures.1
    (λ held was. then_refused e (sight_of held.base role) _ (subst (λ (s : State). IsRefusalOf e (sight_of s.base role)) (image_again held) (c.in_err-sight.ensures.refuses clean (kept_of held) was.keeps)))

pub returns-clause-tells : goal.returns-clause-tells
unfolding reply
returns-clause-tells g c clean =
    let early : HasCleanDisk (state g.S.Store c.sight_in.new.tx.conn.now) = omega (arith, c.event.ensures.lent.stays.crash.clean) in
    let role = c.args.role.now in
    let id = c.args.id.now in
    let sight = c.in_ok-sight.sight in
    ok_then c.event.result
    (λ answer found held was.
    let seen = c.in_ok-sight.ensures.finds early (kept_of held) was.keeps in
    let sees = subst (λ (s : State). sight_of s.base role ≡ Ok sight) (image_again held) seen.0 in
    ap (λ r. r >>= λ sight. event_named held sight (resource_part id) (event_part id)) sees
    ∙ sym (event_is_row (state g.S.Store c.args.tx.now.conn.now) held sight id was)
    ∙ (found (kept_of held) seen.1).0)
    (c.event.ensures.finds clean)

pub returns-clause-refuses : goal.returns-clause-refuses
unfolding reply
returns-clause-refuses g c clean =
    let early : HasCleanDisk (state g.S.Store c.sight_in.new.tx.conn.now) = omega (arith, c.event.ensures.lent.stays.crash.clean) in
    let role = c.args.role.now in
    let id = c.args.id.now in
    let sight = c.in_ok-sight.sight in
    IfErr-weaker c.event.result _ _
    (λ e refused held was.
    let seen = c.in_ok-sight.ensures.finds early (kept_of held) was.keeps in
    let sees = subst (λ (s : State). sight_of s.base role ≡ Ok sight) (image_again held) seen.0 in
    subst (IsRefusalOf e) (event_is_row (state g.S.Store c.args.tx.now.conn.now) held sight id was ∙ sym (ap (λ r. r >>= λ sight. event_named held sight (resource_part id) (event_part id)) sees)) (refused (kept_of held) seen.1))
    (c.event.ensures.refuses clean)

pub returns-clause-listed : goal.returns-clause-listed
returns-clause-listed g c =
    each_listed (Forbidden ∷ NotFound ∷ []) (Forbidden ∷ NotFound ∷ []) ((0, omega arith, refl), ((1, omega arith, refl), tt)) c.event.result c.event.ensures.refused
