use Rattle.std.proofs.Common.{◌≡◌, Option, None, Some, sym, ap, ◌∙◌, arith}
use Rattle.std.proofs.lemmas.Result.{IfErr-weaker}
use Rattle.adr_text.specs.Refusals.{◌>>=◌, or_else}
use Rattle.adr_text.specs.declared.refusal.Refusal.TheVariants.{NotFound}
use Rattle.adr_db.proofs.Common.{state, HasCleanDisk, at, mirror_cmp}
use Rattle.adr_db.specs.Bases.{kept_beside}
use Rattle.adr_db.proofs.Results.{ok_then, refused_so}
use Rattle.adr_objects.specs.declared.body.EventBody.{EventBody}
use Rattle.adr_state.specs.declared.keys.MirrorKey.{MirrorKey}
use Rattle.adr_view.specs.Frozen.{frozen_as}
use Rattle.adr_view.specs.Rollups.{event_key, event_body, event_at}
use Rattle.adr_counted.proofs.Decided.{carried_as}
use Rattle.adr_kept_view.proofs.OrderLemmas.{held_in_order}
use Rattle.adr_frozen.proofs.Deciding.{as_decided}
use Rattle.adr_frozen.proofs.freezing.freeze.Goals as goal

pub returns-clause-refuses : goal.returns-clause-refuses
returns-clause-refuses g c clean beside base was same =
    let id = c.args.event.now in
    let known = c.in_ok-known.ensures.finds clean (kept_beside beside base) was in
    let there : c.in_ok-known.known ≡ at mirror_cmp (event_key id) base.mirror = known.0 ∙ ap (λ (k : MirrorKey). at mirror_cmp k base.mirror) c.in_ok-key.ensures in
    let is : None ≡ event_at base.mirror id = c.in-None.ensures ∙ ap event_body (c.as_ref.ensures.value ∙ there) in
    refused_so NotFound _ (ap (λ (o : Option EventBody). or_else NotFound o >>= λ (event : EventBody). frozen_as c.args.limits.now id event base.mirror base.portfolio) (sym is))

pub returns-in-Some-clause-carries : goal.returns-in-Some-clause-carries
returns-in-Some-clause-carries g c clean =
    let id = c.args.event.now in
    let early : HasCleanDisk (state g.S.Store c.read_known.new.tx.conn.now) = omega (arith, c.frozen_by.ensures.lent.stays.crash.clean) in
    ok_then c.frozen_by.result (λ x carries beside base was same.
    let known = c.in_ok-known.ensures.finds early (kept_beside beside base) was in
    let there : c.in_ok-known.known ≡ at mirror_cmp (event_key id) base.mirror = known.0 ∙ ap (λ (k : MirrorKey). at mirror_cmp k base.mirror) c.in_ok-key.ensures in
    let is : event_at base.mirror id ≡ Some c.in-Some.body.now = sym (c.in-Some.ensures ∙ ap event_body (c.as_ref.ensures.value ∙ there)) in
    carried_as (carries beside base known.1 same) (rw is (as_decided base (held_in_order beside base (state g.S.Store c.args.tx.now.conn.now) was) id c.in-Some.body.now c.args.limits.now is))) (c.frozen_by.ensures.carries clean)

pub returns-in-Some-clause-refuses : goal.returns-in-Some-clause-refuses
returns-in-Some-clause-refuses g c clean =
    let id = c.args.event.now in
    let early : HasCleanDisk (state g.S.Store c.read_known.new.tx.conn.now) = omega (arith, clean, c.frozen_by.ensures.lent.stays.crash.clean) in
    IfErr-weaker c.frozen_by.result _ _ (λ e refuses beside base was same.
    let known = c.in_ok-known.ensures.finds early (kept_beside beside base) was in
    let there : c.in_ok-known.known ≡ at mirror_cmp (event_key id) base.mirror = known.0 ∙ ap (λ (k : MirrorKey). at mirror_cmp k base.mirror) c.in_ok-key.ensures in
    let is : event_at base.mirror id ≡ Some c.in-Some.body.now = sym (c.in-Some.ensures ∙ ap event_body (c.as_ref.ensures.value ∙ there)) in
    rw (is, as_decided base (held_in_order beside base (state g.S.Store c.args.tx.now.conn.now) was) id c.in-Some.body.now c.args.limits.now is) (refuses beside base known.1 same)) (c.frozen_by.ensures.refuses clean)
