use Rattle.std.proofs.Common.{◌≡◌, List, ℕ, Ok, length, rules, arith, ap, subst, ◌∙◌}
use Rattle.std.specs.Prelude.{bytes_eq}
use Rattle.std.specs.List.{list_any}
use Rattle.adr_db.proofs.Common.{state, HasCleanDisk, lent_then}
use Rattle.adr_refresh.specs.Touched.{live_in}
use Rattle.adr_view.specs.Rollups.{event_key}
use Rattle.adr_touched.specs.Answers.{HasEvents, live_events}
use Rattle.adr_db.proofs.Yielded.{each_yielded}
use Rattle.adr_touched.proofs.Gathered.{none_made, more_made}
use Rattle.adr_touched.proofs.Tested.{by_program}
use Rattle.adr_touched.proofs.events.events_of_programs.Goals as goal

pub programs-init : goal.programs-init
programs-init g c = record {
  lent = search rules;
  found = λ clean kept was. (none_made live_in by_program kept.mirror event_key (λ program p. bytes_eq p program) _, was);
}

pub programs-preserved : goal.programs-preserved
programs-preserved g c = record {
  lent =
      let one = c.in_ok-events_of_program.ensures.lent in
      lent_then g.S.Store _ _ _ _ (Ok tt) c.programs.invariant.lent (record { same = one.same; stays = record { crash = one.stays.crash; commit = one.stays.commit; inside = one.stays.inside } });
  found = λ clean kept was.
      let early : HasCleanDisk (state g.S.Store c.programs.tx.conn.now) = omega (arith, c.events_of_program.ensures.lent.stays.crash.clean) in
      let so_far = c.programs.invariant.found early kept was in
      let one = c.in_ok-events_of_program.ensures.finds clean kept so_far.1 in
      let more = more_made live_in by_program kept.mirror event_key (λ program p. bytes_eq p program) c.programs.yielded c.in-Some.program c.programs.all.items c.in_ok-events_of_program.field-0 so_far.0 one.0 in
      (rw (c.in_ok-append.ensures.items, c.into_vec-keys.ensures) more, one.1);
}

pub returns-clause-finds : goal.returns-clause-finds
returns-clause-finds g c clean kept was =
    let it = c.programs.invariant.found clean kept was in
    let all : c.programs.yielded ≡ c.args.programs =
    each_yielded c.into_iter-program-iterator.result c.programs.program-iterator c.next.new.self c.args.programs c.programs.yielded (c.into_iter-program-iterator.ensures.into_iter_gives.0 ∙ c.into_vec-program-items.ensures) (c.into_iter-program-iterator.ensures.into_iter_gives.1 ∙ c.into_vec-program-items.result.ok.0 ∙ ap length c.into_vec-program-items.ensures) c.programs.yielded_by c.in-None.is c.next.ensures.steps in
    (rw c.from_vec.ensures (subst (λ (ps : List (List ℕ)). HasEvents c.programs.all.items (live_events (λ p. list_any (λ program. bytes_eq p program) ps) kept)) all it.0), it.1)
