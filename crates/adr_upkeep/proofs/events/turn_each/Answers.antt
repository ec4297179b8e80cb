use Rattle.std.proofs.Common.{◌≡◌, ◌++◌, Ok, ℕ, Option, sym, ap, subst, arith, ◌∙◌}
use Rattle.std.specs.Prelude.{IfSome}
use Rattle.std.specs.List.{All, filter_map, cons_option}
use Rattle.std.specs.Option.{option_copied}
use Rattle.std.proofs.lemmas.List.Elements.{All-cons, All-nil}
use Rattle.adr_objects.specs.declared.shown.ShownEvent.{ShownEvent}
use Rattle.adr_db.proofs.Common.{state, HasCleanDisk, lent_then}
use Rattle.adr_db.specs.Kept.{Keeps}
use Rattle.adr_shown.specs.ShownTexts.{shown_text}
use Rattle.adr_shown.specs.ReadShown.{shown_of}
use Rattle.adr_kept_view.specs.declared.change.ShownChange.{ShownChange}
use Rattle.adr_kept_view.specs.Changes.{change_at, change_found, kept_with, shown_with, stamps_with, shown_with_each, stamps_with_each}
use Rattle.adr_kept_view.specs.Laws.{ReadsFound}
use Rattle.adr_upkeep.proofs.Common.{added}
use Rattle.adr_upkeep.proofs.events.turn_each.Goals as goal

-- one resource more
pub resources-preserved : goal.resources-preserved
resources-preserved g c = record {
  lent =
      let one = c.in_ok-change.ensures.lent in
      lent_then g.S.Store _ _ _ _ (Ok tt) c.resources.invariant.lent (record { same = one.same; stays = record { crash = one.stays.crash; commit = one.stays.commit; inside = one.stays.inside } });
  turned = λ clean kept was.
      let id = c.args.event.now in
      let found = c.args.found.now in
      let n = c.in-Some.resource.now in
      let rest = c.next.new.self in
      let change : ℕ → Option ShownChange = change_found kept.portfolio c.args.now found in
      let early : HasCleanDisk (state g.S.Store c.resources.tx.conn.now) = omega (arith, c.turn_one.ensures.lent.stays.crash.clean) in
      let so = c.resources.invariant.turned early kept was in
      let one = c.in_ok-change.ensures.turns clean (record kept { shown = so.0; stamps = so.1 }) so.2 in
      let is : change_at kept.portfolio c.args.now n (option_copied c.at_number.result) (option_copied c.at_number-in-resources.result) (option_copied c.at_number-in-resources-2.result) ≡ change n =
      λ i. change_at kept.portfolio c.args.now n (c.at_number.ensures i) (c.at_number-in-resources.ensures i) (c.at_number-in-resources-2.ensures i) in (
        shown_with id (change n) so.0,
        stamps_with id (change n) so.1,
        subst (λ (o : Option ShownChange). Keeps (kept_with id o (record kept { shown = so.0; stamps = so.1 })) (state g.S.Store c.turn_one.new.tx.conn.now)) is one.1,
        ap (shown_with_each id change so.0) (sym c.in-Some.ensures.steps) ∙ so.3,
        ap (stamps_with_each id change so.1) (sym c.in-Some.ensures.steps) ∙ so.4,
        ap (λ items. items ++ filter_map change rest) c.in_ok-push_some.ensures.ok
            ∙ added c.resources.changes.items c.in_ok-change.change (filter_map change rest)
            ∙ ap (λ o. c.resources.changes.items ++ cons_option o (filter_map change rest)) (one.0 ∙ is)
            ∙ ap (λ ns. c.resources.changes.items ++ filter_map change ns) (sym c.in-Some.ensures.steps)
            ∙ so.5,
      );
  reads = λ all.
      let found = c.args.found.now in
      let n = c.in-Some.resource.now in
      let read : ReadsFound found n = subst (λ (o : Option ShownEvent). IfSome o (λ e. shown_of (shown_text e) ≡ Ok e)) c.at_number-in-resources-2.ensures c.in_ok-change.ensures.reads in
      c.resources.invariant.reads (subst (All (ReadsFound found)) (sym c.in-Some.ensures.steps) (All-cons (ReadsFound found) n c.next.new.self read all));
}

pub returns-clause-reads : goal.returns-clause-reads
returns-clause-reads g c = c.resources.invariant.reads (subst (All (ReadsFound c.args.found.now)) (sym c.in-None.ensures.steps.0) (All-nil (ReadsFound c.args.found.now)))
