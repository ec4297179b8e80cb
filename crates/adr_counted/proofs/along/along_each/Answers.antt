use Rattle.std.proofs.Common.{◌≡◌, ◌+◌, ◌++◌, ℕ, List, [], ◌∷◌, take, Ok, refl, sym, ap, ap₂, subst, ◌∙◌, arith}
use Rattle.std.specs.List.{sum_by}
use Rattle.std.proofs.lemmas.List.Sums.{sum_by_push}
use Rattle.adr_db.proofs.Common.{take_more, take_all, state, HasCleanDisk, lent_itself, lent_then}
use Rattle.adr_db.specs.Kept.{Keeps}
use Rattle.adr_counted.specs.declared.along.Along.{Along}
use Rattle.adr_counted.specs.Along.{shares_of, reports_on, frozen_of, along_each}
use Rattle.adr_counted.proofs.along.along_each.Goals as goal

pub resources-init : goal.resources-init
resources-init g c = record { lent = lent_itself g.S.Store _ _; found = λ clean kept was. (refl, was) }

-- one resource more
pub resources-preserved : goal.resources-preserved
resources-preserved g c =
    let numbers = c.args.resources.now in
    let i = c.resources.resource-index in
    let n = c.resource-item.result in
    let more : take (i + 1) numbers ≡ take i numbers ++ n ∷ [] = take_more numbers i n c.resources-test.true ∙ ap (λ y. take i numbers ++ y ∷ []) (sym c.resource-item.is) in
    record {
      lent =
          let one = c.in_ok-one.ensures.lent in
          lent_then g.S.Store _ _ _ _ (Ok tt) c.resources.invariant.lent (record { same = one.same; stays = record { crash = one.stays.crash; commit = one.stays.commit; inside = one.stays.inside } });
      found = λ clean kept was.
          let early : HasCleanDisk (state g.S.Store c.resources.tx.conn.now) = omega (arith, c.along_one.ensures.lent.stays.crash.clean) in
          let so_far = c.resources.invariant.found early kept was in
          let one = c.in_ok-one.ensures.finds clean kept so_far.1 in
          let sums : (f : ℕ → ℕ) → sum_by f (take i numbers) + f n ≡ sum_by f (take i numbers ++ n ∷ []) = λ f. sym (sum_by_push f (take i numbers) n) in
          let together = c.in_ok-all.ensures.sum ∙ ap₂ (λ (a b : Along). let all : Along = record { shares = a.shares + b.shares; reports = a.reports + b.reports; frozen = a.frozen + b.frozen } in all) so_far.0 one.0 in
          let all = together ∙ (λ i. let all : Along = record { shares = sums (shares_of kept.portfolio) i; reports = sums (reports_on kept.portfolio) i; frozen = sums (frozen_of kept.portfolio) i } in all) in
          rw more (all, one.1);
    }

pub returns-clause-finds : goal.returns-clause-finds
returns-clause-finds g c clean kept was = subst (λ (ns : List ℕ). (c.resources.all ≡ along_each kept.portfolio ns) × Keeps kept (state g.S.Store c.resources.tx.conn.now)) (take_all _ _ c.resources-test.false) (c.resources.invariant.found clean kept was)
