use Rattle.std.proofs.Common.{◌≡◌, ◌++◌, [], ◌∷◌, Bool, true, false, not, cond, filter, List, Ok, arith, sym, ap, ap₂, ◌∙◌, append-nil}
use Rattle.adr_db.proofs.Common.{state, HasCleanDisk, lent_then, MirrorKey}
use Rattle.adr_state.specs.declared.portfolio.Portfolio.{Portfolio}
use Rattle.adr_state.specs.Frozen.{is_frozen}
use Rattle.adr_refresh.proofs.Common.{filter-append}
use Rattle.adr_touched.proofs.frozen.without_frozen.Goals as goal

abbrev is_left : Portfolio → MirrorKey → Bool
is_left p key = not (is_frozen p key.id)

-- one key more, which is left or not
one_more : (p : Portfolio) (keys : List MirrorKey) (key : MirrorKey) (frozen : Bool) → frozen ≡ is_frozen p key.id → filter (is_left p) keys ++ cond (not frozen) (key ∷ []) [] ≡ filter (is_left p) (keys ++ key ∷ [])
one_more p keys key frozen is = ap (λ (b : Bool). filter (is_left p) keys ++ cond (not b) (key ∷ []) []) is ∙ sym (filter-append (is_left p) keys (key ∷ []))

pub keys-preserved-in_ok-push : goal.keys-preserved-in_ok-push
keys-preserved-in_ok-push g c = record {
  lent =
      let one = c.in_ok-is_frozen.ensures.lent in
      lent_then g.S.Store _ _ _ _ (Ok tt) c.keys.invariant.lent (record { same = one.same; stays = record { crash = one.stays.crash; commit = one.stays.commit; inside = one.stays.inside } });
  found = λ clean kept was.
      let early : HasCleanDisk (state g.S.Store c.keys.tx.conn.now) = omega (arith, c.is_frozen.ensures.lent.stays.crash.clean) in
      let so_far = c.keys.invariant.found early kept was in
      let one = c.in_ok-is_frozen.ensures.finds clean kept so_far.1 in
      let free : c.in_ok-is_frozen.field-0 ≡ false = c.if-not-branch.true in
      (c.in_ok-push.ensures.ok ∙ ap₂ (λ (keys : List MirrorKey) (b : Bool). keys ++ cond (not b) (c.in-Some.key ∷ []) []) so_far.0 (sym free) ∙ one_more kept.portfolio c.keys.yielded c.in-Some.key c.in_ok-is_frozen.field-0 one.0, one.1);
}

pub keys-preserved : goal.keys-preserved
keys-preserved g c = record {
  lent =
      let one = c.in_ok-is_frozen.ensures.lent in
      lent_then g.S.Store _ _ _ _ (Ok tt) c.keys.invariant.lent (record { same = one.same; stays = record { crash = one.stays.crash; commit = one.stays.commit; inside = one.stays.inside } });
  found = λ clean kept was.
      let early : HasCleanDisk (state g.S.Store c.keys.tx.conn.now) = omega (arith, c.is_frozen.ensures.lent.stays.crash.clean) in
      let so_far = c.keys.invariant.found early kept was in
      let one = c.in_ok-is_frozen.ensures.finds clean kept so_far.1 in
      let frozen : c.in_ok-is_frozen.field-0 ≡ true = c.if-not-branch.false in
      (so_far.0 ∙ sym (append-nil (filter (is_left kept.portfolio) c.keys.yielded)) ∙ ap (λ (b : Bool). filter (is_left kept.portfolio) c.keys.yielded ++ cond (not b) (c.in-Some.key ∷ []) []) (sym frozen) ∙ one_more kept.portfolio c.keys.yielded c.in-Some.key c.in_ok-is_frozen.field-0 one.0, one.1);
}
