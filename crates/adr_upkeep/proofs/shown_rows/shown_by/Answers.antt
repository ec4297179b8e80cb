use Rattle.std.proofs.Common.{◌≡◌, [], Option, None, Some, sym, ap, arith, ◌∙◌}
use Rattle.std.specs.Option.{option_map_or}
use Rattle.adr_objects.specs.declared.body.EventBody.{EventBody}
use Rattle.adr_state.specs.Keys.{at, mirror_cmp}
use Rattle.adr_view.specs.Rollups.{event_key, event_body}
use Rattle.adr_view.specs.Views.{event_rows}
use Rattle.adr_db.proofs.Common.{state, HasCleanDisk}
use Rattle.adr_db.proofs.Results.{ok_then}
use Rattle.adr_db.specs.Bases.{kept_beside}
use Rattle.adr_upkeep.proofs.Known.{by_body}
use Rattle.adr_upkeep.proofs.shown_rows.shown_by.Goals as goal

pub returns-in-Some-clause-finds : goal.returns-in-Some-clause-finds
returns-in-Some-clause-finds g c clean =
    let id = c.args.event.now in
    let early : HasCleanDisk (state g.S.Store c.read_known.new.tx.conn.now) = omega (arith, c.event_rows.ensures.lent.stays.crash.clean) in
    ok_then c.event_rows.result (λ rows finds beside base was right.
    let known = c.in_ok-known.ensures.finds early (kept_beside beside base) was in
    let found = finds beside base known.1 right in
    let there : c.in_ok-known.known ≡ at mirror_cmp (event_key id) base.mirror = known.0 ∙ ap (λ k. at mirror_cmp k base.mirror) c.in_ok-key.ensures in
    let is : Some c.in-Some.body.now ≡ event_body (at mirror_cmp (event_key id) base.mirror) = c.in-Some.ensures ∙ ap event_body (c.as_ref.ensures.value ∙ there) in
    (found.0 ∙ ap (λ (o : Option EventBody). option_map_or (event_rows base id) o []) is ∙ sym (by_body base id (at mirror_cmp (event_key id) base.mirror)), found.1, found.2)) (c.event_rows.ensures.finds clean)

pub returns-clause-finds : goal.returns-clause-finds
returns-clause-finds g c clean beside base was right =
    let id = c.args.event.now in
    let known = c.in_ok-known.ensures.finds clean (kept_beside beside base) was in
    let there : c.in_ok-known.known ≡ at mirror_cmp (event_key id) base.mirror = known.0 ∙ ap (λ k. at mirror_cmp k base.mirror) c.in_ok-key.ensures in
    let is : None ≡ event_body (at mirror_cmp (event_key id) base.mirror) = c.in-None.ensures ∙ ap event_body (c.as_ref.ensures.value ∙ there) in
    (c.new.ensures ∙ ap (λ (o : Option EventBody). option_map_or (event_rows base id) o []) is ∙ sym (by_body base id (at mirror_cmp (event_key id) base.mirror)), right, known.1)
