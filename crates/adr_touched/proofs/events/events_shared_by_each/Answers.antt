use Rattle.std.proofs.Common.{◌≡◌, List, ℕ, Ok, length, rules, arith, ap, subst, ◌∙◌}
use Rattle.std.specs.List.{list_any}
use Rattle.adr_db.proofs.Common.{state, HasCleanDisk, lent_then}
use Rattle.adr_refresh.specs.Touched.{live_in, shares_in}
use Rattle.adr_view.specs.Rollups.{event_key}
use Rattle.adr_touched.specs.Answers.{HasEvents, live_events}
use Rattle.adr_db.proofs.Yielded.{each_yielded}
use Rattle.adr_touched.proofs.Gathered.{none_made, more_made}
use Rattle.adr_touched.proofs.Tested.{by_program}
use Rattle.adr_touched.proofs.events.events_shared_by_each.Goals as goal

pub resources-init : goal.resources-init
resources-init g c = record {
  lent = search rules;
  found = λ clean kept was. (none_made live_in by_program kept.mirror event_key (λ n p. shares_in kept.portfolio n p) _, was);
}

pub resources-preserved : goal.resources-preserved
resources-preserved g c = record {
  lent =
      let one = c.in_ok-events_shared_by.ensures.lent in
      lent_then g.S.Store _ _ _ _ (Ok tt) c.resources.invariant.lent (record { same = one.same; stays = record { crash = one.stays.crash; commit = one.stays.commit; inside = one.stays.inside } });
  found = λ clean kept was.
      let early : HasCleanDisk (state g.S.Store c.resources.tx.conn.now) = omega (arith, c.events_shared_by.ensures.lent.stays.crash.clean) in
      let so_far = c.resources.invariant.found early kept was in
      let one = c.in_ok-events_shared_by.ensures.finds clean kept so_far.1 in
      let more = more_made live_in by_program kept.mirror event_key (λ n p. shares_in kept.portfolio n p) c.resources.yielded c.in-Some.resource c.resources.all.items c.in_ok-events_shared_by.field-0 so_far.0 one.0 in
      (rw (c.in_ok-append.ensures.items, c.into_vec-keys.ensures) more, one.1);
}

pub returns-clause-finds : goal.returns-clause-finds
returns-clause-finds g c clean kept was =
    let it = c.resources.invariant.found clean kept was in
    let all : c.resources.yielded ≡ c.args.resources =
    each_yielded c.into_iter-resource-iterator.result c.resources.resource-iterator c.next.new.self c.args.resources c.resources.yielded (c.into_iter-resource-iterator.ensures.into_iter_gives.0 ∙ c.into_vec-resource-items.ensures) (c.into_iter-resource-iterator.ensures.into_iter_gives.1 ∙ c.into_vec-resource-items.result.ok.0 ∙ ap length c.into_vec-resource-items.ensures) c.resources.yielded_by c.in-None.is c.next.ensures.steps in
    (rw c.from_vec.ensures (subst (λ (ns : List ℕ). HasEvents c.resources.all.items (live_events (λ p. list_any (λ n. shares_in kept.portfolio n p) ns) kept)) all it.0), it.1)
