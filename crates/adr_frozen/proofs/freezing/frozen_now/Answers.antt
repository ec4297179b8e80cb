use Rattle.std.proofs.Common.{ℕ, List, sym, ap, subst, arith}
use Rattle.std.specs.List.Sorted.{IsStrictlySortedBy}
use Rattle.std.specs.Map.{keys_of}
use Rattle.std.proofs.lemmas.Result.{IfErr-weaker}
use Rattle.adr_db.proofs.Common.{state, HasCleanDisk, IsRefusalOf, nat_cmp}
use Rattle.adr_db.specs.Bases.{kept_beside}
use Rattle.adr_db.proofs.Results.{ok_then}
use Rattle.adr_counted.proofs.Decided.{carried_as}
use Rattle.adr_frozen.specs.Decided.{frozen_within}
use Rattle.adr_kept_view.proofs.OrderLemmas.{held_in_order}
use Rattle.adr_frozen.proofs.Deciding.{pairs_rise}
use Rattle.adr_frozen.proofs.freezing.frozen_now.Goals as goal

pub returns-clause-carries : goal.returns-clause-carries
returns-clause-carries g c clean =
    let id = c.args.id.now in
    let early : HasCleanDisk (state g.S.Store c.participants.new.tx.conn.now) = omega (arith, c.frozen_within.ensures.lent.stays.crash.clean) in
    ok_then c.frozen_within.result (λ x carries beside base was same fresh.
    let found = c.in_ok-pairs.ensures.finds early (kept_beside beside base) was in
    let rise = pairs_rise base (held_in_order beside base (state g.S.Store c.args.tx.now.conn.now) was) id c.args.event.now in
    carried_as (carries beside base found.1 same (fresh, subst (λ (pairs : List (ℕ × ℕ)). IsStrictlySortedBy nat_cmp (keys_of pairs)) (sym found.0) rise))
    (ap (λ (pairs : List (ℕ × ℕ)). frozen_within c.args.limits.now id pairs base.portfolio) (sym found.0))) (c.frozen_within.ensures.carries clean)

pub returns-clause-refuses : goal.returns-clause-refuses
returns-clause-refuses g c clean =
    let early : HasCleanDisk (state g.S.Store c.participants.new.tx.conn.now) = omega (arith, clean, c.frozen_within.ensures.lent.stays.crash.clean) in
    IfErr-weaker c.frozen_within.result _ _ (λ e refuses beside base was same.
    let found = c.in_ok-pairs.ensures.finds early (kept_beside beside base) was in
    subst (λ (pairs : List (ℕ × ℕ)). IsRefusalOf e (frozen_within c.args.limits.now c.args.id.now pairs base.portfolio)) found.0 (refuses beside base found.1 same)) (c.frozen_within.ensures.refuses clean)
