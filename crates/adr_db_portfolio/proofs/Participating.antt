-- The shares in a program, and those that are kept for an event, in the order of their keys, find the participants in the order of the resources.
use Rattle.std.proofs.Common.{◌≡◌, ℕ, Bool, true, false, ◌&&◌, cond, List, [], ◌∷◌, map, filter, Option, Some, None, refl, sym, ap, ap₂, subst, ◌∙◌, Ordering, Less, Equal, Greater, is_eq}
use Rattle.std.specs.Prelude.{option_map, option_and_then}
use Rattle.adr_db.proofs.Common.{nat_cmp, ordering_then, ordering_reverse, AllByRecursion, filter_map, cons_option, nat_cmp_total, IsAscending, all_weaker, State, Resource, Ven, ShareKey, Participant, id_cmp, share_cmp, at, ties, then_eq, text_same}
use Rattle.adr_objects.specs.declared.body.EventBody.{EventBody}
use Rattle.adr_state.specs.declared.keys.FrozenKey.{FrozenKey}
use Rattle.adr_state.specs.Frozen.{is_frozen, frozen_key, frozen_weight}
use Rattle.adr_state.specs.Participants.{is_for, as_participant, weight_by_share, participants}
use Rattle.adr_db.specs.Kept.{Kept, Keeps}
use Rattle.adr_db.specs.Sharing.{sharers, frozen_sharers, those_for}
use Rattle.adr_db.proofs.Rows.{number_same_is}
use Rattle.adr_db.proofs.Rises.{resources_rise, shares_rise, frozen_shares_rise}

-- ---- lists

filter_map-filter_map : {X Y Z : Type 0} (g : Y → Option Z) (h : X → Option Y) (xs : List X) → filter_map g (filter_map h xs) ≡ filter_map (λ x. option_and_then g (h x)) xs
filter_map-filter_map g h [] = refl
filter_map-filter_map {X} {Y} {Z} g h (x ∷ xs) = by (h x) (filter_map-filter_map g h xs)
  where
    by : (o : Option Y) → filter_map g (filter_map h xs) ≡ filter_map (λ x. option_and_then g (h x)) xs → filter_map g (cons_option o (filter_map h xs)) ≡ cons_option (option_and_then g o) (filter_map (λ x. option_and_then g (h x)) xs)
    by None more = more
    by (Some y) more = ap (cons_option (g y)) more

filter_map-map : {X Y Z : Type 0} (h : Y → Option Z) (f : X → Y) (xs : List X) → filter_map h (map f xs) ≡ filter_map (λ x. h (f x)) xs
filter_map-map h f [] = refl
filter_map-map h f (x ∷ xs) = ap (cons_option (h (f x))) (filter_map-map h f xs)

-- one that gives each that passes
abbrev if_passes : {X : Type 0} → (X → Bool) → X → Option X
if_passes passes x = cond (passes x) (Some x) None

filter_map-filter : {X : Type 0} (passes : X → Bool) (xs : List X) → filter_map (if_passes passes) xs ≡ filter passes xs
filter_map-filter passes [] = refl
filter_map-filter passes (x ∷ xs) = by (passes x) (filter_map-filter passes xs)
  where
    by : (b : Bool) → filter_map (if_passes passes) xs ≡ filter passes xs → cons_option (cond b (Some x) None) (filter_map (if_passes passes) xs) ≡ cond b (x ∷ filter passes xs) (filter passes xs)
    by true more = ap (λ ys. x ∷ ys) more
    by false more = more

-- ---- two maps by number, each looked up from the other

-- the entries of the first, with what the second has at their numbers
abbrev joined : {A B C : Type 0} → (ℕ → A → B → Option C) → List (ℕ × A) → List (ℕ × B) → List C
joined f xs ys = filter_map (λ x. option_and_then (f x.0 x.1) (at nat_cmp x.0 ys)) xs

abbrev turned : {A B C : Type 0} → (ℕ → A → B → Option C) → ℕ → B → A → Option C
turned f n b a = f n a b

abbrev Rises : {A : Type 0} → List (ℕ × A) → Type 0
Rises = IsAscending (λ a b. nat_cmp a.0 b.0 ≡ Less)

abbrev AreAbove : {A : Type 0} → ℕ → List (ℕ × A) → Type 0
AreAbove n = AllByRecursion (λ x. nat_cmp n x.0 ≡ Less)

back : (m n : ℕ) (o : Ordering) → nat_cmp m n ≡ o → nat_cmp n m ≡ ordering_reverse o
back m n o h = nat_cmp_total.antisymm n m ∙ ap ordering_reverse h

above_too : {A : Type 0} (m n : ℕ) (xs : List (ℕ × A)) → nat_cmp m n ≡ Less → AreAbove n xs → AreAbove m xs
above_too m n xs less = all_weaker (λ x. nat_cmp n x.0 ≡ Less) (λ x. nat_cmp m x.0 ≡ Less) (λ x h. nat_cmp_total.trans m n x.0 less h) xs

absent : {A : Type 0} (n : ℕ) (xs : List (ℕ × A)) → AreAbove n xs → at nat_cmp n xs ≡ None
absent n [] above = refl
absent n (x ∷ xs) above = rw above.0 (absent n xs above.1)

module _ {A B C : Type 0} (f : ℕ → A → B → Option C) where
  none_joined : (xs : List (ℕ × A)) → joined {B = B} f xs [] ≡ []
  none_joined [] = refl
  none_joined (x ∷ xs) = none_joined xs

  -- an entry that lies below all is looked up by none
  skipped : (y : ℕ × B) (ys : List (ℕ × B)) (xs : List (ℕ × A)) → AreAbove y.0 xs → joined f xs (y ∷ ys) ≡ joined f xs ys
  skipped y ys [] above = refl
  skipped y ys (x ∷ xs) above = rw (back y.0 x.0 Less above.0) (ap (cons_option (option_and_then (f x.0 x.1) (at nat_cmp x.0 ys))) (skipped y ys xs above.1))

  -- one below all finds nothing
  missed : (x : ℕ × A) (xs : List (ℕ × A)) (ys : List (ℕ × B)) → AreAbove x.0 ys → joined f (x ∷ xs) ys ≡ joined f xs ys
  missed x xs ys above = rw (absent x.0 ys above) refl

module _ {A B C : Type 0} (f : ℕ → A → B → Option C) where
  one_more : (x : ℕ × A) (xs : List (ℕ × A)) → Rises (x ∷ xs) → ((ys : List (ℕ × B)) → Rises ys → joined f xs ys ≡ joined (turned f) ys xs) → (ys : List (ℕ × B)) → Rises ys → joined f (x ∷ xs) ys ≡ joined (turned f) ys (x ∷ xs)
  one_more x xs up rest [] rises = none_joined f xs
  one_more x xs up rest (y ∷ ys) rises = by (nat_cmp x.0 y.0) refl (one_more x xs up rest ys rises.1)
    where
      by : (o : Ordering) → nat_cmp x.0 y.0 ≡ o → joined f (x ∷ xs) ys ≡ joined (turned f) ys (x ∷ xs) → joined f (x ∷ xs) (y ∷ ys) ≡ joined (turned f) (y ∷ ys) (x ∷ xs)
      by Less is more =
          let above : AreAbove x.0 (y ∷ ys) = (is, above_too x.0 y.0 ys is rises.0) in
          missed f x xs (y ∷ ys) above ∙ rest (y ∷ ys) rises ∙ sym (skipped (turned f) x xs (y ∷ ys) above)
      by Greater is more =
          let less = back x.0 y.0 Greater is in
          let above : AreAbove y.0 (x ∷ xs) = (less, above_too y.0 x.0 xs less up.0) in
          skipped f y ys (x ∷ xs) above ∙ more ∙ sym (missed (turned f) y ys (x ∷ xs) above)
      by Equal is more =
          let same : x.0 ≡ y.0 = number_same_is x.0 y.0 is in
          let here : at nat_cmp x.0 (y ∷ ys) ≡ Some y.1 = rw is refl in
          let there : at nat_cmp y.0 (x ∷ xs) ≡ Some x.1 = rw (back x.0 y.0 Equal is) refl in
          ap₂ cons_option (ap (option_and_then (f x.0 x.1)) here) (skipped f y ys xs (subst (λ n. AreAbove n xs) same up.0) ∙ rest ys rises.1)
          ∙ ap₂ cons_option (ap (λ n. f n x.1 y.1) same ∙ sym (ap (option_and_then (turned f y.0 y.1)) there)) (sym (skipped (turned f) x xs ys (subst (λ n. AreAbove n ys) (sym same) rises.0)))

  both_ways : (xs : List (ℕ × A)) (ys : List (ℕ × B)) → Rises xs → Rises ys → joined f xs ys ≡ joined (turned f) ys xs
  both_ways [] ys up rises = sym (none_joined (turned f) ys)
  both_ways (x ∷ xs) ys up rises = one_more x xs up (λ zs. both_ways xs zs up.1) ys rises

-- ---- the entries behind one id, by resource

-- keys that are an id and a resource, in the order of the ids and then of the resources
module _ {K : Type 0} (id_of : K → List ℕ) (resource_of : K → ℕ) where
  abbrev pair_cmp : K → K → Ordering
  pair_cmp a b = ordering_then (id_cmp (id_of a) (id_of b)) (nat_cmp (resource_of a) (resource_of b))

  abbrev is_behind : List ℕ → K × ℕ → Bool
  is_behind id e = is_eq (id_cmp id (id_of e.0))

  abbrev part : K × ℕ → ℕ × ℕ
  part e = (resource_of e.0, e.1)

  abbrev parts_in : List ℕ → List (K × ℕ) → List (ℕ × ℕ)
  parts_in id entries = map part (filter (is_behind id) entries)

  at_is : (k : K) (entries : List (K × ℕ)) → at pair_cmp k entries ≡ at nat_cmp (resource_of k) (parts_in (id_of k) entries)
  at_is k [] = refl
  at_is k (e ∷ entries) =
      ap (λ b. cond b (Some e.1) (at pair_cmp k entries)) (then_eq (id_cmp (id_of k) (id_of e.0)) (nat_cmp (resource_of k) (resource_of e.0))) ∙ by (is_behind (id_of k) e) (at_is k entries)
    where
      by : (b : Bool) → at pair_cmp k entries ≡ at nat_cmp (resource_of k) (parts_in (id_of k) entries)
          → cond (b && is_eq (nat_cmp (resource_of k) (resource_of e.0))) (Some e.1) (at pair_cmp k entries) ≡ at nat_cmp (resource_of k) (map part (cond b (e ∷ filter (is_behind (id_of k)) entries) (filter (is_behind (id_of k)) entries)))
      by true more = ap (λ o. cond (is_eq (nat_cmp (resource_of k) (resource_of e.0))) (Some e.1) o) more
      by false more = more

  module _ (id : List ℕ) where
    its_id : (e : K × ℕ) → is_behind id e ≡ true → id ≡ id_of e.0
    its_id e is = text_same (id_of e.0) id (ties _ is)

    -- behind one id the order is that of the resources
    by_resource : (d e : K × ℕ) → is_behind id d ≡ true → is_behind id e ≡ true → pair_cmp d.0 e.0 ≡ Less → nat_cmp (resource_of d.0) (resource_of e.0) ≡ Less
    by_resource d e one two less =
        let same : id_cmp (id_of d.0) (id_of e.0) ≡ Equal = ap (λ p. id_cmp p (id_of e.0)) (sym (its_id d one)) ∙ ties _ two in
        ap (λ o. ordering_then o (nat_cmp (resource_of d.0) (resource_of e.0))) (sym same) ∙ less

    above_in : (d : K × ℕ) (entries : List (K × ℕ)) → is_behind id d ≡ true → AllByRecursion (λ e. pair_cmp d.0 e.0 ≡ Less) entries → AreAbove (resource_of d.0) (parts_in id entries)
    above_in d [] one above = tt
    above_in d (e ∷ entries) one above = by (is_behind id e) refl (above_in d entries one above.1)
      where
        by : (b : Bool) → is_behind id e ≡ b → AreAbove (resource_of d.0) (parts_in id entries) → AreAbove (resource_of d.0) (map part (cond b (e ∷ filter (is_behind id) entries) (filter (is_behind id) entries)))
        by true two more = (by_resource d e one two above.0, more)
        by false two more = more

    in_rise : (entries : List (K × ℕ)) → IsAscending (λ a b. pair_cmp a.0 b.0 ≡ Less) entries → Rises (parts_in id entries)
    in_rise [] up = tt
    in_rise (e ∷ entries) up = by (is_behind id e) refl (in_rise entries up.1)
      where
        by : (b : Bool) → is_behind id e ≡ b → Rises (parts_in id entries) → Rises (map part (cond b (e ∷ filter (is_behind id) entries) (filter (is_behind id) entries)))
        by true one more = (above_in e entries one up.0, more)
        by false one more = more

-- ---- the participants

module _ (kept : Kept) where
  -- resources with a weight behind an id, whether they are looked up by resource or by that weight
  weighted_are : {K : Type 0} (id_of : K → List ℕ) (resource_of : K → ℕ) (id : List ℕ) (entries : List (K × ℕ)) (s : State) → Keeps kept s → IsAscending (λ a b. pair_cmp id_of resource_of a.0 b.0 ≡ Less) entries
      → filter_map (λ r. option_and_then (as_participant kept.portfolio r) (at nat_cmp r.0 (parts_in id_of resource_of id entries))) kept.portfolio.resources
      ≡ filter_map (λ e. option_and_then (λ resource. as_participant kept.portfolio (resource_of e.0, resource) e.1) (at nat_cmp (resource_of e.0) kept.portfolio.resources)) (filter (is_behind id_of resource_of id) entries)
  weighted_are id_of resource_of id entries s was up =
      both_ways (λ n resource weight. as_participant kept.portfolio (n, resource) weight) kept.portfolio.resources (parts_in id_of resource_of id entries) (resources_rise kept s was) (in_rise id_of resource_of id entries up)
      ∙ filter_map-map _ (part id_of resource_of) (filter (is_behind id_of resource_of id) entries)

  module _ (event : EventBody) where
    -- those who share in the program
    sharers_are : (s : State) → Keeps kept s → filter_map (λ r. option_and_then (as_participant kept.portfolio r) (at share_cmp (record { program = event.program; resource = r.0 }) kept.portfolio.shares)) kept.portfolio.resources ≡ sharers event.program kept
    sharers_are s was =
        ap (λ (h : ℕ × Resource → Option Participant). filter_map h kept.portfolio.resources) (λ i r. option_and_then (as_participant kept.portfolio r) (at_is (λ k. k.program) (λ k. k.resource) (record { program = event.program; resource = r.0 }) kept.portfolio.shares i))
        ∙ weighted_are (λ (k : ShareKey). k.program) (λ k. k.resource) event.program kept.portfolio.shares s was (shares_rise kept s was)

    -- a resource with its share and its ven, where it has them
    abbrev shared : ℕ × Resource → Option ℕ → Option Ven → Option Participant
    shared r weight ven = option_and_then (λ (w : ℕ). option_map (λ (v : Ven). record { resource = r.0; weight = w; name = r.1.name; ven_name = v.name }) ven) weight

    abbrev has_its_name : Participant → Bool
    has_its_name p = is_for event.resource_names p.name

    -- one that shares, with its name tested before or behind
    sharer_is : (r : ℕ × Resource) → option_and_then (as_participant kept.portfolio r) (weight_by_share kept.portfolio event r)
        ≡ option_and_then (if_passes has_its_name) (option_and_then (as_participant kept.portfolio r) (at share_cmp (record { program = event.program; resource = r.0 }) kept.portfolio.shares))
    sharer_is r = by (is_for event.resource_names r.1.name) refl (at share_cmp (record { program = event.program; resource = r.0 }) kept.portfolio.shares) (at nat_cmp r.1.ven kept.portfolio.vens)
      where
        by : (b : Bool) → is_for event.resource_names r.1.name ≡ b → (weight : Option ℕ) (ven : Option Ven)
            → shared r (cond b weight None) ven ≡ option_and_then (if_passes has_its_name) (shared r weight ven)
        by true is None ven = refl
        by true is (Some w) None = refl
        by true is (Some w) (Some v) = rw is refl
        by false is None ven = refl
        by false is (Some w) None = refl
        by false is (Some w) (Some v) = rw is refl

    -- of an event that is not frozen
    pub participants_are : (id : List ℕ) (s : State) → Keeps kept s → is_frozen kept.portfolio id ≡ false → participants kept.portfolio id event ≡ those_for event.resource_names (sharers event.program kept)
    participants_are id s was free =
        ap (λ (b : Bool). filter_map (λ r. option_and_then (as_participant kept.portfolio r) (cond b (frozen_weight kept.portfolio id r.0) (weight_by_share kept.portfolio event r))) kept.portfolio.resources) free
        ∙ ap (λ (h : ℕ × Resource → Option Participant). filter_map h kept.portfolio.resources) (λ i r. sharer_is r i)
        ∙ sym (filter_map-filter_map (if_passes has_its_name) (λ r. option_and_then (as_participant kept.portfolio r) (at share_cmp (record { program = event.program; resource = r.0 }) kept.portfolio.shares)) kept.portfolio.resources)
        ∙ ap (filter_map (if_passes has_its_name)) (sharers_are s was)
        ∙ filter_map-filter has_its_name (sharers event.program kept)

    -- and of one that is
    pub frozen_are : (id : List ℕ) (s : State) → Keeps kept s → is_frozen kept.portfolio id ≡ true → participants kept.portfolio id event ≡ frozen_sharers id kept
    frozen_are id s was frozen =
        ap (λ (b : Bool). filter_map (λ r. option_and_then (as_participant kept.portfolio r) (cond b (frozen_weight kept.portfolio id r.0) (weight_by_share kept.portfolio event r))) kept.portfolio.resources) frozen
        ∙ ap (λ (h : ℕ × Resource → Option Participant). filter_map h kept.portfolio.resources) (λ i r. option_and_then (as_participant kept.portfolio r) (at_is (λ k. k.event) (λ k. k.resource) (frozen_key id r.0) kept.portfolio.frozen_shares i))
        ∙ weighted_are (λ (k : FrozenKey). k.event) (λ k. k.resource) id kept.portfolio.frozen_shares s was (frozen_shares_rise kept s was)
