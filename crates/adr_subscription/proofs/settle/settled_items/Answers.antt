use Rattle.std.proofs.Common.{◌≡◌, List, [], ◌∷◌, ◌++◌, length, length-append, Result, Ok, Err, refl, ap, ◌∙◌, append_assoc, arith}
use Rattle.adr_text.proofs.Each.{with_front}
use Rattle.adr_text.specs.Refusals.{◌>>=◌}
use Rattle.adr_text.specs.declared.refusal.Refusal.{Refusal}
use Rattle.adr_subscription.specs.declared.item.SubscriptionItem.{SubscriptionItem}
use Rattle.adr_subscription.specs.Callbacks.{settled_item, settled_items}
use Rattle.adr_subscription.proofs.settle.settled_items.Goals as goal

behind : (front : List SubscriptionItem) (kept : SubscriptionItem) (rest : Result (List SubscriptionItem) Refusal) → with_front (front ++ kept ∷ []) rest ≡ with_front front (rest >>= λ items. Ok (kept ∷ items))
behind front kept (Ok items) = ap (λ (all : List SubscriptionItem). Ok all) (append_assoc front (kept ∷ []) items)
behind front kept (Err e) = refl

one_more : (front items rest : List SubscriptionItem) (item kept : SubscriptionItem) → items ≡ item ∷ rest → settled_item item ≡ Ok kept → with_front (front ++ kept ∷ []) (settled_items rest) ≡ with_front front (settled_items items)
one_more front items rest item kept next is = rw (next, is) (behind front kept (settled_items rest))

pub loop-item-preserved : goal.loop-item-preserved
loop-item-preserved c =
    let next = c.in-Some.ensures.steps.0 in
    let pushed = c.in_ok-push.ensures.items in
    record {
      len = omega (arith, c.loop-item.invariant.len, ap length next, ap length pushed, length-append c.loop-item.kept.items (c.in_ok-settled_item.field-0 ∷ []));
      so_far = ap (λ (front : List SubscriptionItem). with_front front (settled_items c.next.new.self.rest.items)) pushed
          ∙ one_more c.loop-item.kept.items c.loop-item.item-iterator.rest.items c.next.new.self.rest.items c.in-Some.item c.in_ok-settled_item.field-0 next c.in_ok-settled_item.ensures
          ∙ c.loop-item.invariant.so_far;
    }
