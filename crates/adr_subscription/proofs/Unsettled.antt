-- By what a subscription is refused that isn't settled.
use Rattle.std.proofs.Common.{◌≡◌, ◌≢◌, ℕ, nat_le, length, Bool, true, false, cond, List, [], ◌∷◌, None, Result, Ok, Err, IfErr, refl, subst}
use Rattle.std.proofs.lemmas.Result.{IfErr-at_err}
use Rattle.url.specs.Parts.{Parts}
use Rattle.url.specs.Parser.{Parsed, parse_url}
use Rattle.adr_text.specs.Refusals.{◌>>=◌, Fails}
use Rattle.adr_text.specs.declared.refusal.Refusal.{Refusal}
use Rattle.adr_text.specs.declared.refusal.Refusal.TheVariants.{Store, BadShape}
use Rattle.adr_subscription.specs.declared.item.SubscriptionItem.{SubscriptionItem}
use Rattle.adr_subscription.specs.declared.subscription.SubIn.{SubIn}
use Rattle.adr_subscription.specs.Callbacks.{is_callback, address_as, callable, callable_address, callback_address, settled_address, settled_item, settled_items, settled}

-- a result is refused by nothing but the shape
pub record IsShape {A : Type 0} (r : Result A Refusal) : Type 0 where
  pub so : IfErr r (λ e. e ≡ BadShape)

fine : {A : Type 0} (x : A) → IsShape (Ok x)
fine x = record { so = tt }

either : {A : Type 0} (test : Bool) (r : Result A Refusal) → IsShape r → IsShape (cond test r (Err BadShape))
either true r is = is
either false r is = record { so = refl }

first_then : {A B : Type 0} (r : Result B Refusal) (f : B → Result A Refusal) → IsShape r → ((x : B) → IsShape (f x)) → IsShape (r >>= f)
first_then (Ok x) f first others = others x
first_then (Err e) f first others = record { so = first.so }

callable_so : (url : Parsed Parts) → IsShape (address_as url >>= callable)
callable_so (Ok url) = either (is_callback url) (Ok url) (fine _)
callable_so (Err e) = record { so = refl }

callback_so : (text : List ℕ) → IsShape (callback_address text)
callback_so text = either (nat_le (length text) 1024) (callable_address text) (callable_so (parse_url None text))

address_so : (text : List ℕ) → IsShape (settled_address text)
address_so text = first_then (callback_address text) _ (callback_so text) (λ url. fine _)

item_so : (item : SubscriptionItem) → IsShape (settled_item item)
item_so item = first_then (settled_address item.callback_url) _ (address_so item.callback_url) (λ address. fine _)

items_so : (items : List SubscriptionItem) → IsShape (settled_items items)
items_so [] = fine _
items_so (item ∷ items) = first_then (settled_item item) _ (item_so item) (λ kept. first_then (settled_items items) _ (items_so items) (λ rest. fine _))

pub settled_refused : (sub : SubIn) → IfErr (settled sub) (λ e. e ≡ BadShape)
unfolding settled
settled_refused sub = (first_then (settled_items sub.items) _ (items_so sub.items) (λ items. fine _)).so

-- so the store refuses none, whatever a reader of them gives
pub not_the_store : (items : List SubscriptionItem) (e : Refusal) → Fails e (settled_items items) → e ≢ Store
not_the_store items e fails is =
    let told : settled_items items ≡ Err Store = subst (λ e. Fails e (settled_items items)) is fails in
    absurd (let no : Store ≡ BadShape = IfErr-at_err (λ e. e ≡ BadShape) told (items_so items).so in cc)
