-- What is told of changes to the subscriptions that were read, as more are.
use Rattle.std.proofs.Common.{◌≡◌, ℕ, Bool, true, false, cond, List, [], ◌∷◌, ◌++◌, filter, refl, sym, ap, ap₂, ◌∙◌}
use Rattle.std.specs.Prelude.{All, ◌||◌}
use Rattle.std.specs.List.{flat_map}
use Rattle.std.proofs.lemmas.List.Elements.{All-head, All-tail}
use Rattle.adr_subscription.specs.declared.kept_sub.Sub.{Sub}
use Rattle.adr_delivery.specs.declared.entry.Entry.{Entry}
use Rattle.adr_db.proofs.Unions.{or_true}
use Rattle.adr_listeners.specs.declared.hearers.Hearers.{Hearers}
use Rattle.adr_listeners.specs.declared.listeners.Listeners.{Listeners}
use Rattle.adr_listeners.specs.Hearers.{hears, heard_by}
use Rattle.adr_listeners.specs.Listeners.{was_read, ReadsMore}
use Rattle.adr_visit.specs.Heard.{IsHeard}

-- of those that pass one test, those that pass another by which they pass that one too
within : {X : Type 0} (p q : X → Bool) → ((x : X) → p x ≡ true → q x ≡ true) → (xs : List X) → filter p (filter q xs) ≡ filter p xs
within p q in_q [] = refl
within p q in_q (x ∷ xs) = by (p x) (q x) refl refl (within p q in_q xs)
  where
    by : (b c : Bool) → p x ≡ b → q x ≡ c → filter p (filter q xs) ≡ filter p xs → filter p (cond c (x ∷ filter q xs) (filter q xs)) ≡ cond b (x ∷ filter p xs) (filter p xs)
    by true true is passes rest = rw is (ap (λ ys. x ∷ ys) rest)
    by false true is passes rest = rw is rest
    by false false is passes rest = rest
    by true false is fails rest = absurd (let both : true ≡ false = sym (in_q x is) ∙ fails in cc)

module _ {I C : Type 0} (told : List (ℕ × Sub) → I → C → List Entry) where
  -- whoever may hear of it was read
  pub heard : (before those : Listeners) (hearers : Hearers) (c : C) → ((subs : List (ℕ × Sub)) (item : I) → told subs item c ≡ told (heard_by hearers subs) item c) → ReadsMore (hears hearers) before those → IsHeard told those c
  heard before those hearers c alike reads subs item =
      alike subs item ∙ ap (λ (rows : List (ℕ × Sub)). told rows item c) (sym (within (λ s. hears hearers s.1) (λ s. was_read those s.1) (λ s hear. reads s.1 ∙ ap (λ b. was_read before s.1 || b) hear ∙ or_true (was_read before s.1)) subs))
      ∙ sym (alike (filter (λ s. was_read those s.1) subs) item)

  -- and is still there when more are read
  pub heard_still : (those later : Listeners) (more : Sub → Bool) → ReadsMore more those later → (c : C) → IsHeard told those c → IsHeard told later c
  heard_still those later more reads c are subs item =
      are subs item ∙ ap (λ (rows : List (ℕ × Sub)). told rows item c) (sym (within (λ s. was_read those s.1) (λ s. was_read later s.1) (λ s was. reads s.1 ∙ ap (λ b. b || more s.1) was) subs))
      ∙ sym (are (filter (λ s. was_read later s.1) subs) item)

  -- so all changes are told to those that were read as to all
  pub all_told : (those : Listeners) (subs : List (ℕ × Sub)) (item : I) (cs : List C) → All (IsHeard told those) cs → flat_map (told (filter (λ s. was_read those s.1) subs) item) cs ≡ flat_map (told subs item) cs
  all_told those subs item [] are = refl
  all_told those subs item (c ∷ cs) are = ap₂ ◌++◌ (sym (All-head (IsHeard told those) c cs are subs item)) (all_told those subs item cs (All-tail (IsHeard told those) c cs are))
