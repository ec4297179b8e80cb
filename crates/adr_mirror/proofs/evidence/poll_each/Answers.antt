use Rattle.std.proofs.Common.{◌≡◌, ◌+◌, ◌++◌, [], ◌∷◌, take, sym, ap, subst, ◌∙◌, arith}
use Rattle.adr_db.proofs.Common.{take_more, take_all, state, HasCleanDisk, lent_then, mirror_cmp, insert_key}
use Rattle.adr_db.specs.Kept.{Keeps}
use Rattle.adr_mirror.specs.Raises.{with_keys_polled}
use Rattle.adr_mirror.proofs.Keeping.{polled_more}
use Rattle.adr_mirror.proofs.evidence.poll_each.Goals as goal

-- one key more
pub founds-preserved : goal.founds-preserved
founds-preserved g c =
    let founds = c.args.founds.now in
    let i = c.founds.found-index in
    let f = c.found-item.result in
    let more : take (i + 1) founds ≡ take i founds ++ f ∷ [] = take_more founds i f c.founds-test.true ∙ ap (λ y. take i founds ++ y ∷ []) (sym c.found-item.is) in
    let new = state g.S.Store c.put_polled.new.tx.conn.now in
    record {
      lent = lent_then g.S.Store _ _ _ _ _ c.founds.invariant.lent c.in_ok-put_polled.ensures.lent;
      polled = λ clean kept was.
          let early : HasCleanDisk (state g.S.Store c.founds.tx.conn.now) = omega (arith, c.put_polled.ensures.lent.stays.crash.clean) in
          let before = with_keys_polled (take i founds) kept in
          let put = c.in_ok-put_polled.ensures.leaves clean before (c.founds.invariant.polled early kept was) in
          let named = subst (λ k. Keeps (record kept { polled = insert_key mirror_cmp before.polled k }) new) c.in_ok-key_of.ensures put in
          rw more (subst (λ keys. Keeps (record kept { polled = keys }) new) (sym (polled_more kept.polled (take i founds) f)) named);
    }

pub returns-clause-leaves : goal.returns-clause-leaves
returns-clause-leaves g c = subst (λ l. HasCleanDisk (state g.S.Store c.founds.tx.conn.now) → (kept : _) → Keeps kept (state g.S.Store c.args.tx.now.conn.now) → Keeps (with_keys_polled l kept) (state g.S.Store c.founds.tx.conn.now)) (take_all _ _ c.founds-test.false) c.founds.invariant.polled
