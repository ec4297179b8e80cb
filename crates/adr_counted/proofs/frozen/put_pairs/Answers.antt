use Rattle.std.proofs.Common.{◌≡◌, ◌+◌, ◌++◌, ℕ, List, [], ◌∷◌, take, map, Ok, sym, ap, subst, ◌∙◌, arith}
use Rattle.std.proofs.lemmas.Grind.{fold-append}
use Rattle.adr_sql.proofs.Common.{map-append}
use Rattle.adr_state.specs.declared.keys.FrozenKey.{FrozenKey}
use Rattle.adr_state.specs.Frozen.{frozen_row}
use Rattle.adr_state.specs.Keys.{frozen_cmp, with_rows}
use Rattle.adr_db.proofs.Common.{take_more, take_all, state, HasCleanDisk, insert_entry, lent_itself, lent_then}
use Rattle.adr_db.specs.Kept.{Keeps, with_portfolio}
use Rattle.adr_counted.specs.Frozen.{with_pairs_put}
use Rattle.adr_counted.proofs.frozen.put_pairs.Goals as goal

-- one pair more is put behind the others
one_more : (id : List ℕ) (pairs : List (ℕ × ℕ)) (pair : ℕ × ℕ) (shares : List (FrozenKey × ℕ)) → insert_entry frozen_cmp (with_rows frozen_cmp shares (map (frozen_row id) pairs)) (frozen_row id pair).0 pair.1 ≡ with_rows frozen_cmp shares (map (frozen_row id) (pairs ++ pair ∷ []))
one_more id pairs pair shares = sym (ap (with_rows frozen_cmp shares) (map-append (frozen_row id) pairs (pair ∷ [])) ∙ fold-append (λ m r. insert_entry frozen_cmp m r.0 r.1) shares (map (frozen_row id) pairs) (map (frozen_row id) (pair ∷ [])))

pub pairs-init : goal.pairs-init
pairs-init g c = record { lent = lent_itself g.S.Store _ _; put = λ clean kept was. was }

pub pairs-preserved : goal.pairs-preserved
pairs-preserved g c =
    let pairs = c.args.pairs.now in
    let i = c.pairs.pair-index in
    let pair = c.pair-item.result in
    let more : take (i + 1) pairs ≡ take i pairs ++ pair ∷ [] = take_more pairs i pair c.pairs-test.true ∙ ap (λ y. take i pairs ++ y ∷ []) (sym c.pair-item.is) in
    record {
      lent =
          let one = c.in_ok-put_pair.ensures.lent in
          lent_then g.S.Store _ _ _ _ (Ok tt) c.pairs.invariant.lent (record { same = one.same; stays = record { crash = one.stays.crash; commit = one.stays.commit; inside = one.stays.inside } });
      put = λ clean kept was.
          let early : HasCleanDisk (state g.S.Store c.pairs.tx.conn.now) = omega (arith, clean, c.put_pair.ensures.lent.stays.crash.clean) in
          let so_far = c.pairs.invariant.put early kept was in
          let next = c.in_ok-put_pair.ensures.leaves clean _ so_far in
          rw (more) (subst (λ (shares : List (FrozenKey × ℕ)). Keeps (with_portfolio (λ p. record p { frozen_shares = shares }) kept) (state g.S.Store c.put_pair.new.tx.conn.now)) (one_more c.args.event.now (take i pairs) pair kept.portfolio.frozen_shares) next);
    }

pub returns-clause-leaves : goal.returns-clause-leaves
returns-clause-leaves g c clean kept was =
    subst (λ (pairs : List (ℕ × ℕ)). Keeps (with_portfolio (with_pairs_put c.args.event.now pairs) kept) (state g.S.Store c.pairs.tx.conn.now)) (take_all _ _ c.pairs-test.false) (c.pairs.invariant.put clean kept was)
