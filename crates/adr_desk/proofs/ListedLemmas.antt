-- What the layers below refuse by is listed for the command or the query.
use Rattle.std.proofs.Common.{◌≡◌, ◌⊎◌, inl, inr, List, [], ◌∷◌, Contains, Result, Ok, Err, IfErr, refl, sym, subst, arith}
use Rattle.std.specs.List.{AllByRecursion}
use Rattle.adr_text.specs.declared.refusal.Refusal.{Refusal}
use Rattle.adr_text.specs.declared.refusal.Refusal.TheVariants.{OutOfMemory, Store, Exhausted, OutboxFull, BadShape}
use Rattle.std.proofs.lemmas.List.Elements.{Contains-append_right}
use Rattle.std.proofs.lemmas.Result.{IfErr-at_err}
use Rattle.adr_text.specs.Refusals.{Fails}
use Rattle.adr_subscription.specs.declared.subscription.SubIn.{SubIn}
use Rattle.adr_subscription.specs.Callbacks.{settled}
use Rattle.adr_subscription.proofs.Unsettled.{settled_refused}
use Rattle.adr_db.specs.Calls.{IsOfStore, IsOneOf}
use Rattle.adr_machine.specs.declared.command.Command.{Command}
use Rattle.adr_machine.specs.Commands.{traits_of}
use Rattle.adr_machine.specs.Edits.{told_by}
use Rattle.adr_machine.specs.Listed.{listed}
use Rattle.adr_machine.proofs.Listed.{own_listed}
use Rattle.adr_machine.specs.declared.outcome.Outcome.{Outcome}
use Rattle.adr_queries.specs.Listed.{IsListed}
use Rattle.adr_touched.specs.declared.touched.Touched.{Touched}
use Rattle.adr_desk.specs.Decisions.{with_touched}

module _ (these : List Refusal) where
  -- as a desk with a store refuses
  abbrev pub Listed : Refusal → Type 0
  Listed = IsListed (Unit {0}) these

  pub contained_listed : (e : Refusal) → Contains these e → Listed e
  contained_listed OutOfMemory h = tt
  contained_listed Store h = tt
  contained_listed e h = h

  pub contained_all : {A : Type 0} (r : Result A Refusal) → IfErr r (Contains these) → IfErr r Listed
  contained_all (Ok x) h = tt
  contained_all (Err e) h = contained_listed e h

  pub store_listed : (e : Refusal) → IsOfStore e → Listed e
  store_listed e (inl is) = subst Listed (sym is) tt
  store_listed e (inr is) = subst Listed (sym is) tt

  -- one of the store's, or this one
  pub either_listed : (own : Refusal) → Contains these own → (e : Refusal) → IsOfStore e ⊎ (e ≡ own) → Listed e
  either_listed own has e (inl h) = store_listed e h
  either_listed own has e (inr is) = subst Listed (sym is) (contained_listed own has)

  -- one of the store's, or want of numbers or of room
  pub room_or_store : Contains these Exhausted → Contains these OutboxFull → (e : Refusal) → IsOfStore e ⊎ ((e ≡ Exhausted) ⊎ (e ≡ OutboxFull)) → Listed e
  room_or_store exhausted full e (inl h) = store_listed e h
  room_or_store exhausted full e (inr (inl is)) = subst Listed (sym is) (contained_listed Exhausted exhausted)
  room_or_store exhausted full e (inr (inr is)) = subst Listed (sym is) (contained_listed OutboxFull full)

  -- what is not settled is refused for its shape, or memory ran out
  pub unsettled_listed : Contains these BadShape → (sub : SubIn) (e : Refusal) → Fails e (settled sub) → Listed e
  unsettled_listed has sub OutOfMemory fails = tt
  unsettled_listed has sub Store fails = tt
  unsettled_listed has sub e fails = subst Listed (sym (IfErr-at_err (λ e. e ≡ BadShape) fails (settled_refused sub))) (contained_listed BadShape has)

  -- one of those that a call lists, each of which is listed here
  pub one_of_listed : (ones : List Refusal) → AllByRecursion (Contains these) ones → (e : Refusal) → IsOneOf ones e → Listed e
  one_of_listed [] all e h = store_listed e h
  one_of_listed (one ∷ ones) all e (inl is) = subst Listed (sym is) (contained_listed one all.0)
  one_of_listed (one ∷ ones) all e (inr h) = one_of_listed ones all.1 e h

  all_within : (ones : List Refusal) → ((e : Refusal) → Contains ones e → Contains these e) → AllByRecursion (Contains these) ones
  all_within [] within = tt
  all_within (one ∷ ones) within = (within one (0, omega arith, refl), all_within ones (λ e has. within e (Contains-append_right (one ∷ []) ones e has)))

  -- whatever is told of what went well
  module _ {A B : Type 0} (told : A → B) where
    by_result : (P : Refusal → Type 0) → ((e : Refusal) → P e → Listed e) → (r : Result A Refusal) → IfErr r P → IfErr (told_by told r) Listed
    by_result P weaker (Ok x) h = tt
    by_result P weaker (Err e) h = weaker e h

    pub told_store : (r : Result A Refusal) → IfErr r IsOfStore → IfErr (told_by told r) Listed
    told_store = by_result IsOfStore store_listed

    pub told_either : (own : Refusal) → Contains these own → (r : Result A Refusal) → IfErr r (λ e. IsOfStore e ⊎ (e ≡ own)) → IfErr (told_by told r) Listed
    told_either own has = by_result (λ e. IsOfStore e ⊎ (e ≡ own)) (either_listed own has)

    pub told_one_of : (ones : List Refusal) → AllByRecursion (Contains these) ones → (r : Result A Refusal) → IfErr r (IsOneOf ones) → IfErr (told_by told r) Listed
    told_one_of ones all = by_result (IsOneOf ones) (one_of_listed ones all)

-- along with what was touched
module _ (these : List Refusal) {A : Type 0} (told : A → Outcome) (touched : Touched) where
  pub along_store : (r : Result A Refusal) → IfErr r IsOfStore → IfErr (told_by (with_touched touched) (told_by told r)) (Listed these)
  along_store (Ok x) h = tt
  along_store (Err e) h = store_listed these e h

  pub along_one_of : (ones : List Refusal) → AllByRecursion (Contains these) ones → (r : Result A Refusal) → IfErr r (IsOneOf ones) → IfErr (told_by (with_touched touched) (told_by told r)) (Listed these)
  along_one_of ones all (Ok x) h = tt
  along_one_of ones all (Err e) h = one_of_listed these ones all e h

pub either_refused : {A : Type 0} (these : List Refusal) (own : Refusal) → Contains these own → (r : Result A Refusal) → IfErr r (λ e. IsOfStore e ⊎ (e ≡ own)) → IfErr r (Listed these)
either_refused these own has (Ok x) h = tt
either_refused these own has (Err e) h = either_listed these own has e h

-- what a call refuses by is the command's own
pub own_refused : {A : Type 0} (c : Command) (r : Result A Refusal) → IfErr r (IsOneOf (traits_of c).own) → IfErr r (Listed (listed c))
own_refused c (Ok x) h = tt
own_refused c (Err e) h = let own = (traits_of c).own in one_of_listed (listed c) own (all_within (listed c) own (own_listed (traits_of c))) e h
