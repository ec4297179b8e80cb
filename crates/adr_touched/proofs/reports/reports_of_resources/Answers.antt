use Rattle.std.proofs.Common.{◌≡◌, List, ℕ, Ok, length, rules, arith, ap, subst, ◌∙◌}
use Rattle.std.specs.Prelude.{◌==◌}
use Rattle.std.specs.List.{list_any}
use Rattle.adr_db.proofs.Common.{state, HasCleanDisk, lent_then}
use Rattle.adr_refresh.specs.Touched.{report_by, reports_by}
use Rattle.adr_touched.specs.Answers.{HasEach}
use Rattle.adr_db.proofs.Yielded.{each_yielded}
use Rattle.adr_touched.proofs.Gathered.{none_made, more_made}
use Rattle.adr_touched.proofs.Tested.{by_resource}
use Rattle.adr_touched.proofs.Statements.{reported_are}
use Rattle.adr_touched.proofs.reports.reports_of_resources.Goals as goal

pub resources-init : goal.resources-init
resources-init g c = record {
  lent = search rules;
  found = λ clean kept was. (none_made report_by by_resource kept.portfolio.reports (λ n. n) (λ n m. m == n) _, was);
}

pub resources-preserved : goal.resources-preserved
resources-preserved g c = record {
  lent =
      let one = c.in_ok-read_reports_on.ensures.lent in
      lent_then g.S.Store _ _ _ _ (Ok tt) c.resources.invariant.lent (record { same = one.same; stays = record { crash = one.stays.crash; commit = one.stays.commit; inside = one.stays.inside } });
  found = λ clean kept was.
      let early : HasCleanDisk (state g.S.Store c.resources.tx.conn.now) = omega (arith, c.read_reports_on.ensures.lent.stays.crash.clean) in
      let so_far = c.resources.invariant.found early kept was in
      let one = c.in_ok-read_reports_on.ensures.finds clean kept so_far.1 in
      let more = more_made report_by by_resource kept.portfolio.reports (λ n. n) (λ n m. m == n) c.resources.yielded c.in-Some.resource c.resources.all.items c.in_ok-read_reports_on.field-0 so_far.0 (λ m there. rw (one.0 ∙ reported_are (λ m. m == c.in-Some.resource) kept.portfolio.reports) there) in
      (rw (c.in_ok-append.ensures.items, c.into_vec-numbers.ensures) more, one.1);
}

pub returns-clause-finds : goal.returns-clause-finds
returns-clause-finds g c clean kept was =
    let it = c.resources.invariant.found clean kept was in
    let all : c.resources.yielded ≡ c.args.resources =
    each_yielded c.into_iter-resource-iterator.result c.resources.resource-iterator c.next.new.self c.args.resources c.resources.yielded (c.into_iter-resource-iterator.ensures.into_iter_gives.0 ∙ c.into_vec-resource-items.ensures) (c.into_iter-resource-iterator.ensures.into_iter_gives.1 ∙ c.into_vec-resource-items.result.ok.0 ∙ ap length c.into_vec-resource-items.ensures) c.resources.yielded_by c.in-None.is c.next.ensures.steps in
    (rw c.from_vec.ensures (subst (λ (ns : List ℕ). HasEach c.resources.all.items (reports_by (λ m. list_any (λ n. m == n) ns) kept.portfolio)) all it.0), it.1)
