use Rattle.std.proofs.Common.{ℕ, Bool, arith, sym, subst}
use Rattle.std.specs.Prelude.{◌==◌}
use Rattle.std.specs.List.{list_any}
use Rattle.adr_db.proofs.Common.{state, HasCleanDisk}
use Rattle.adr_db.proofs.Results.{ok_then}
use Rattle.adr_refresh.specs.Touched.{has_resource}
use Rattle.adr_refresh.proofs.Common.{Contains}
use Rattle.adr_touched.specs.Answers.{frozen_by}
use Rattle.adr_touched.proofs.FrozenFound.{by_share, frozen_are, one_of_it}
use Rattle.adr_touched.proofs.Gathered.{weaker}
use Rattle.adr_touched.proofs.frozen.events_frozen_with.Goals as goal

pub returns-clause-finds : goal.returns-clause-finds
returns-clause-finds g c clean =
    let ven = c.args.ven in
    let early : HasCleanDisk (state g.S.Store c.read_resources_of.new.tx.conn.now) = omega (arith, c.events_frozen_for_each.ensures.lent.stays.crash.clean) in
    ok_then c.events_frozen_for_each.result (λ keys finds kept was.
    let resources = c.in_ok-resources.ensures.finds early kept was in
    let found = finds kept resources.1 in
    let of_it : ℕ → Bool = λ m. list_any (λ n. m == n) c.in_ok-resources.resources in (
      λ id there. found.0 id (subst (λ ids. Contains ids id) (sym (frozen_are of_it kept.portfolio.frozen_shares))
          (weaker frozen_by by_share kept.portfolio.frozen_shares (has_resource kept.portfolio ven) of_it (λ m is. rw resources.0 (one_of_it kept.portfolio ven m is)) id (subst (λ ids. Contains ids id) (frozen_are (has_resource kept.portfolio ven) kept.portfolio.frozen_shares) there))),
      found.1,
    )) (c.events_frozen_for_each.ensures.finds clean)
