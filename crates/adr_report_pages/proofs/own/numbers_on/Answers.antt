use Rattle.std.proofs.Common.{◌≡◌, ℕ, List, length, [], ◌∷◌, ◌++◌, ap, arith, map, subst, sym, ◌∙◌, Ok, rules}
use Rattle.adr_db.proofs.Common.{state, HasCleanDisk, lent_then, nat_cmp}
use Rattle.adr_db.proofs.Rises.{reports_rise}
use Rattle.adr_db.proofs.Yielded.{each_yielded}
use Rattle.adr_state.specs.Keys.{with_rows}
use Rattle.adr_report_pages.specs.Columns.{on_any, with_resource}
use Rattle.adr_report_pages.specs.Firsts.{HaveFirst}
use Rattle.adr_report_pages.proofs.OwnLemmas.{more_first, none_first}
use Rattle.adr_report_pages.proofs.own.numbers_on.Goals as goal

pub resources-init : goal.resources-init
resources-init g c = record {
  lent = search rules;
  found = λ clean kept was. (subst (HaveFirst c.args.most (λ r. on_any [] (with_resource r)) kept.portfolio.reports) (sym c.new-numbers.ensures) (none_first c.args.most kept.portfolio.reports), was);
}

pub resources-preserved : goal.resources-preserved
resources-preserved g c = record {
  lent =
      let one = c.in_ok-more.ensures.lent in
      lent_then g.S.Store _ _ _ _ (Ok tt) c.resources.invariant.lent (record { same = one.same; stays = record { crash = one.stays.crash; commit = one.stays.commit; inside = one.stays.inside } });
  found = λ clean kept was.
      let early : HasCleanDisk (state g.S.Store c.resources.tx.conn.now) = omega (arith, c.read_numbers_on.ensures.lent.stays.crash.clean) in
      let so_far = c.resources.invariant.found early kept was in
      let more = c.in_ok-more.ensures.finds clean kept so_far.1 in
      let rs = kept.portfolio.reports in
      let resource = c.in-Some.resource in
      let yielded = c.resources.yielded in (
        subst (HaveFirst c.args.most (λ r. on_any (yielded ++ resource ∷ []) (with_resource r)) rs)
            (ap (λ l. with_rows nat_cmp c.resources.numbers (map (λ n. (n, resource)) l)) (sym more.0) ∙ sym c.in_ok-put_numbers.ensures)
            (more_first c.args.most yielded resource rs c.resources.numbers (reports_rise kept _ was) so_far.0),
        more.1,
      );
}

pub returns-clause-finds : goal.returns-clause-finds
returns-clause-finds g c clean kept was =
    let all : c.resources.yielded ≡ c.args.resources =
    each_yielded c.into_iter-resource-iterator.result c.resources.resource-iterator c.next.new.self c.args.resources c.resources.yielded (c.into_iter-resource-iterator.ensures.into_iter_gives.0 ∙ c.into_vec-resource-items.ensures) (c.into_iter-resource-iterator.ensures.into_iter_gives.1 ∙ c.into_vec-resource-items.result.ok.0 ∙ ap length c.into_vec-resource-items.ensures) c.resources.yielded_by c.in-None.is c.next.ensures.steps in
    let found = c.resources.invariant.found clean kept was in
    (subst (λ (ns : List ℕ). HaveFirst c.args.most (λ r. on_any ns (with_resource r)) kept.portfolio.reports c.resources.numbers) all found.0, found.1)
