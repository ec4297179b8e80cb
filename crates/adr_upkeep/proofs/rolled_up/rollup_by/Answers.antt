use Rattle.std.proofs.Common.{◌≡◌, Option, None, Some, ap, arith, ◌∙◌}
use Rattle.std.specs.Prelude.{option_and_then}
use Rattle.adr_objects.specs.declared.body.EventBody.{EventBody}
use Rattle.adr_state.specs.Keys.{at, mirror_cmp}
use Rattle.adr_view.specs.Rollups.{event_key, event_body, rollup_of}
use Rattle.adr_db.proofs.Common.{state, HasCleanDisk}
use Rattle.adr_db.proofs.Results.{ok_then}
use Rattle.adr_upkeep.proofs.rolled_up.rollup_by.Goals as goal

pub returns-in-Some-clause-finds : goal.returns-in-Some-clause-finds
returns-in-Some-clause-finds g c clean =
    let id = c.args.event.now in
    let early : HasCleanDisk (state g.S.Store c.read_known.new.tx.conn.now) = omega (arith, c.event_rollup.ensures.lent.stays.crash.clean) in
    ok_then c.event_rollup.result (λ rollup finds kept was right.
    let known = c.in_ok-known.ensures.finds early kept was in
    let found = finds kept known.1 right in
    let there : c.in_ok-known.known ≡ at mirror_cmp (event_key id) kept.mirror = known.0 ∙ ap (λ k. at mirror_cmp k kept.mirror) c.in_ok-key.ensures in
    let is : Some c.in-Some.body.now ≡ event_body (at mirror_cmp (event_key id) kept.mirror) = c.in-Some.ensures ∙ ap event_body (c.as_ref.ensures.value ∙ there) in
    (found.0 ∙ ap (λ (o : Option EventBody). option_and_then (rollup_of kept.portfolio id) o) is, found.1, found.2)) (c.event_rollup.ensures.finds clean)

pub returns-clause-finds : goal.returns-clause-finds
returns-clause-finds g c clean kept was right =
    let id = c.args.event.now in
    let known = c.in_ok-known.ensures.finds clean kept was in
    let there : c.in_ok-known.known ≡ at mirror_cmp (event_key id) kept.mirror = known.0 ∙ ap (λ k. at mirror_cmp k kept.mirror) c.in_ok-key.ensures in
    let is : None ≡ event_body (at mirror_cmp (event_key id) kept.mirror) = c.in-None.ensures ∙ ap event_body (c.as_ref.ensures.value ∙ there) in
    (ap (λ (o : Option EventBody). option_and_then (rollup_of kept.portfolio id) o) is, right, known.1)
