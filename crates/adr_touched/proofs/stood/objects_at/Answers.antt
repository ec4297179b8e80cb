use Rattle.std.proofs.Common.{◌≡◌, List, [], ◌∷◌, ◌++◌, map, Ok, length, rules, arith, sym, ap, ap₂, ◌∙◌}
use Rattle.std.proofs.lemmas.List.{map-append}
use Rattle.adr_db.proofs.Common.{state, HasCleanDisk, lent_then}
use Rattle.adr_kept_view.specs.declared.object.OldObject.{OldObject}
use Rattle.adr_touched.specs.Touched.{old_object}
use Rattle.adr_db.proofs.Yielded.{each_yielded}
use Rattle.adr_touched.proofs.stood.objects_at.Goals as goal

pub keys-init : goal.keys-init
keys-init g c = record {
  lent = search rules;
  found = λ clean kept was. (c.new-olds.ensures, was);
}

pub keys-preserved : goal.keys-preserved
keys-preserved g c = record {
  lent =
      let one = c.in_ok-object_at.ensures.lent in
      lent_then g.S.Store _ _ _ _ (Ok tt) c.keys.invariant.lent (record { same = one.same; stays = record { crash = one.stays.crash; commit = one.stays.commit; inside = one.stays.inside } });
  found = λ clean kept was.
      let early : HasCleanDisk (state g.S.Store c.keys.tx.conn.now) = omega (arith, c.object_at.ensures.lent.stays.crash.clean) in
      let so_far = c.keys.invariant.found early kept was in
      let one = c.in_ok-object_at.ensures.finds clean kept so_far.1 in
      (rw c.in_ok-push.ensures.ok (ap₂ (λ (olds more : List OldObject). olds ++ more) so_far.0 (ap (λ (old : OldObject). old ∷ []) one.0) ∙ sym (map-append (old_object kept) c.keys.yielded (c.in-Some.key ∷ []))), one.1);
}

pub returns-clause-finds : goal.returns-clause-finds
returns-clause-finds g c clean kept was =
    let it = c.keys.invariant.found clean kept was in
    let all : c.keys.yielded ≡ c.args.keys =
    each_yielded c.into_iter-key-iterator.result c.keys.key-iterator c.next.new.self c.args.keys c.keys.yielded (c.into_iter-key-iterator.ensures.into_iter_gives.0 ∙ c.into_vec-key-items.ensures) (c.into_iter-key-iterator.ensures.into_iter_gives.1 ∙ c.into_vec-key-items.result.ok.0 ∙ ap length c.into_vec-key-items.ensures) c.keys.yielded_by c.in-None.is c.next.ensures.steps in
    (it.0 ∙ ap (map (old_object kept)) all, it.1)
