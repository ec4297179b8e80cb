use Rattle.std.proofs.Common.{◌≡◌, true, cond, [], sym, ap, subst, ◌∙◌, rules}
use Rattle.adr_db.specs.Bases.{kept_beside}
use Rattle.adr_state.specs.Participants.{participants}
use Rattle.adr_view.specs.Views.{carries, rows_for}
use Rattle.adr_upkeep.proofs.shown_rows.event_rows.Goals as goal

pub returns-clause-finds : goal.returns-clause-finds
returns-clause-finds g c clean beside base was right =
    let id = c.args.id.now in
    let event = c.args.event.now in
    let some : carries event ≡ true = search rules in
    let found = c.in_ok-ps.ensures.finds clean (kept_beside beside base) was right in
    (subst (λ b. c.in_ok-rows_for.field-0 ≡ cond b (rows_for id event (participants base.portfolio id event)) []) (sym some) (c.in_ok-rows_for.ensures ∙ ap (rows_for id event) (c.as_slice.ensures ∙ found.0)), found.1, found.2)
