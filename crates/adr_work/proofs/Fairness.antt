-- Each move of the queue keeps its rule.
use Rattle.std.proofs.Common.{◌≡◌, ◌≢◌, ℕ, zero, suc, ◌+◌, ◌-◌, ◌<◌, ◌≤◌, Bool, cond, List, [], ◌∷◌, ◌++◌, length, set, sym, refl, ap, ◌∙◌, subst, ⊎_elim, arith}
use Rattle.std.proofs.lemmas.List.Sums.{sum_by-cons}
use Rattle.std.specs.List.{count_by}
use mathlib.Core.Option.{some, some-ne-none, some-injective}
use lib.ListN.{get_elem?}
use Rattle.crossbeam_queue.specs.Fifo.{Pushes, Pops, Forks, Merges, Learns}
use Rattle.crossbeam_queue.proofs.Lists.{at_set, at_snoc}
use Rattle.adr_delivery.specs.declared.job.Job.{Job}
use Rattle.adr_work.specs.declared.hand.Hand.{Hand}
use Rattle.adr_work.specs.Fair.{weigh, hand, all_parts, IdleIsEmpty, Balanced, Whole}
use Rattle.adr_work.specs.Seats.{IsShared}

pub weigh-append : {A : Type 0} (h : A → ℕ) (xs ys : List A) → weigh h (xs ++ ys) ≡ weigh h xs + weigh h ys
weigh-append h [] ys = omega arith
weigh-append h (x ∷ xs) ys = let r = weigh-append h xs ys in omega (arith, r)

-- the total after a change of one view
total_set : {A : Type 0} (f : A → ℕ) (views : List A) (seat : ℕ) (v w : A) → get_elem? views seat ≡ some v → weigh f (set views seat w) + f v ≡ weigh f views + f w
total_set f [] seat v w at = absurd (some-ne-none v (sym at))
total_set f (x ∷ xs) zero v w at = let e : f x ≡ f v = ap f (some-injective x v at) in omega (arith, e)
total_set f (x ∷ xs) (suc seat) v w at = let r = total_set f xs seat v w at in omega (arith, r)

idle_set : (views : List Hand) (seat : ℕ) (w : Hand) → (w.parts ≡ 0 → (w.put ≡ []) × (w.taken ≡ []) × (w.left ≡ [])) → IdleIsEmpty views → IdleIsEmpty (set views seat w)
idle_set views seat w mine idle j u at none =
    ⊎_elim (λ (x : (j ≡ seat) × (w ≡ u)). subst (λ (y : Hand). (y.put ≡ []) × (y.taken ≡ []) × (y.left ≡ [])) x.1 (mine (ap (λ (y : Hand). y.parts) x.1 ∙ none)))
    (λ (x : (j ≢ seat) × (get_elem? views j ≡ some u)). idle j u x.1 none) (at_set views seat j w u at)

idle_snoc : (views : List Hand) (w : Hand) → (w.parts ≡ 0 → (w.put ≡ []) × (w.taken ≡ []) × (w.left ≡ [])) → IdleIsEmpty views → IdleIsEmpty (views ++ w ∷ [])
idle_snoc views w mine idle j u at none =
    ⊎_elim (λ (x : get_elem? views j ≡ some u). idle j u x none)
    (λ (is : w ≡ u). subst (λ (y : Hand). (y.put ≡ []) × (y.taken ≡ []) × (y.left ≡ [])) is (mine (ap (λ (y : Hand). y.parts) is ∙ none))) (at_snoc views w u j at)

pub puts : (n seat : ℕ) (v : Hand) (x : Job) → 0 < v.parts → Pushes Balanced n seat v x (λ w. w ≡ hand v.parts (v.put ++ x ∷ []) v.taken v.left)
puts n seat v x some_part items views room b at =
    let w = hand v.parts (v.put ++ x ∷ []) v.taken v.left in (
      w,
      (
        (let s = total_set (λ u. u.parts) views seat v w at in let p = b.0 in omega (arith, s, p)),
        (λ h.
            let s = total_set (λ u. weigh h u.put) views seat v w at in
            let t = total_set (λ u. weigh h u.taken) views seat v w at in
            let l = total_set (λ u. weigh h u.left) views seat v w at in
            let p = b.1 h in
            omega (arith, s, t, l, p, weigh-append h v.put (x ∷ []), weigh-append h items (x ∷ []))),
        idle_set views seat w (λ none. absurd (omega arith)) b.2,
      ),
      refl,
    )

pub takes : (seat : ℕ) (v : Hand) → 0 < v.parts → Pops Balanced seat v (λ x w. w ≡ hand v.parts v.put (v.taken ++ x ∷ []) v.left)
takes seat v some_part x items views b at =
    let w = hand v.parts v.put (v.taken ++ x ∷ []) v.left in (
      w,
      (
        (let s = total_set (λ u. u.parts) views seat v w at in let p = b.0 in omega (arith, s, p)),
        (λ h.
            let s = total_set (λ u. weigh h u.put) views seat v w at in
            let t = total_set (λ u. weigh h u.taken) views seat v w at in
            let l = total_set (λ u. weigh h u.left) views seat v w at in
            let p = b.1 h in
            omega (arith, s, t, l, p, weigh-append h v.taken (x ∷ []))),
        idle_set views seat w (λ none. absurd (omega arith)) b.2,
      ),
      refl,
    )

pub clears : (seat : ℕ) (v : Hand) → 0 < v.parts → Pops Balanced seat v (λ x w. w ≡ hand v.parts v.put v.taken (v.left ++ x ∷ []))
clears seat v some_part x items views b at =
    let w = hand v.parts v.put v.taken (v.left ++ x ∷ []) in (
      w,
      (
        (let s = total_set (λ u. u.parts) views seat v w at in let p = b.0 in omega (arith, s, p)),
        (λ h.
            let s = total_set (λ u. weigh h u.put) views seat v w at in
            let t = total_set (λ u. weigh h u.taken) views seat v w at in
            let l = total_set (λ u. weigh h u.left) views seat v w at in
            let p = b.1 h in
            omega (arith, s, t, l, p, weigh-append h v.left (x ∷ []))),
        idle_set views seat w (λ none. absurd (omega arith)) b.2,
      ),
      refl,
    )

pub forks : (seat : ℕ) (v : Hand) → 1 < v.parts → Forks Balanced seat v (hand (v.parts - 1) v.put v.taken v.left) (hand 1 [] [] [])
forks seat v more items views b at =
    let w = hand (v.parts - 1) v.put v.taken v.left in
    let one = hand 1 [] [] [] in
    let vs = set views seat w in (
      (let s = total_set (λ u. u.parts) views seat v w at in let a = weigh-append (λ u. u.parts) vs (one ∷ []) in let p = b.0 in omega (arith, s, a, p)),
      (λ h.
          let s = total_set (λ u. weigh h u.put) views seat v w at in
          let t = total_set (λ u. weigh h u.taken) views seat v w at in
          let l = total_set (λ u. weigh h u.left) views seat v w at in
          let p = b.1 h in
          omega (arith, s, t, l, p, weigh-append (λ u. weigh h u.put) vs (one ∷ []), weigh-append (λ u. weigh h u.taken) vs (one ∷ []), weigh-append (λ u. weigh h u.left) vs (one ∷ []))),
      idle_snoc vs one (λ none. absurd (omega arith)) (idle_set views seat w (λ none. absurd (omega arith)) b.2),
    )

pub merges : (seat : ℕ) (v : Hand) (other : ℕ) (u : Hand) → 0 < v.parts
    → Merges Balanced seat v other u (hand (v.parts + u.parts) (v.put ++ u.put) (v.taken ++ u.taken) (v.left ++ u.left)) (hand 0 [] [] [])
merges seat v other u some_part items views b at apart at' =
    let w = hand (v.parts + u.parts) (v.put ++ u.put) (v.taken ++ u.taken) (v.left ++ u.left) in
    let spent = hand 0 [] [] [] in
    let vs = set views seat w in (
      (let s = total_set (λ y. y.parts) views seat v w at in let s' = total_set (λ y. y.parts) vs other u spent at' in let p = b.0 in omega (arith, s, s', p)),
      (λ h.
          let s = total_set (λ y. weigh h y.put) views seat v w at in
          let s' = total_set (λ y. weigh h y.put) vs other u spent at' in
          let t = total_set (λ y. weigh h y.taken) views seat v w at in
          let t' = total_set (λ y. weigh h y.taken) vs other u spent at' in
          let l = total_set (λ y. weigh h y.left) views seat v w at in
          let l' = total_set (λ y. weigh h y.left) vs other u spent at' in
          let p = b.1 h in
          omega (arith, s, s', t, t', l, l', p, weigh-append h v.put u.put, weigh-append h v.taken u.taken, weigh-append h v.left u.left)),
      idle_set vs other spent (λ _. (refl, refl, refl)) (idle_set views seat w (λ none. absurd (omega arith)) b.2),
    )

-- where no view has a part, a number that is 0 of each view without a part adds up to 0
total_none : (f : Hand → ℕ) (views : List Hand) → weigh (λ u. u.parts) views ≡ 0 → ((j : ℕ) (u : Hand) → get_elem? views j ≡ some u → u.parts ≡ 0 → f u ≡ 0) → weigh f views ≡ 0
total_none f [] none zero_of = refl
total_none f (x ∷ xs) none zero_of =
    let here = zero_of 0 x refl (omega arith) in
    let rest = total_none f xs (omega arith) (λ j u at. zero_of (suc j) u at) in
    omega (arith, here, rest)

part_le : (views : List Hand) (seat : ℕ) (v : Hand) → get_elem? views seat ≡ some v → v.parts ≤ weigh (λ u. u.parts) views
part_le [] seat v at = absurd (some-ne-none v (sym at))
part_le (x ∷ xs) zero v at = let e : x.parts ≡ v.parts = ap (λ (y : Hand). y.parts) (some-injective x v at) in omega (arith, e)
part_le (x ∷ xs) (suc seat) v at = let r = part_le xs seat v at in omega (arith, r)

-- where one view has all parts, such a number adds up to what it is of that view
total_alone : (f : Hand → ℕ) (views : List Hand) (seat : ℕ) (v : Hand) → get_elem? views seat ≡ some v → weigh (λ u. u.parts) views ≡ v.parts
    → ((j : ℕ) (u : Hand) → get_elem? views j ≡ some u → u.parts ≡ 0 → f u ≡ 0) → weigh f views ≡ f v
total_alone f [] seat v at all zero_of = absurd (some-ne-none v (sym at))
total_alone f (x ∷ xs) zero v at all zero_of =
    let e : x.parts ≡ v.parts = ap (λ (y : Hand). y.parts) (some-injective x v at) in
    let here : f x ≡ f v = ap f (some-injective x v at) in
    let rest = total_none f xs (omega (arith, e, all)) (λ j u there. zero_of (suc j) u there) in
    omega (arith, here, rest)
total_alone f (x ∷ xs) (suc seat) v at all zero_of =
    let le = part_le xs seat v at in
    let here = zero_of 0 x refl (omega (arith, le, all)) in
    let rest = total_alone f xs seat v at (omega (arith, le, all)) (λ j u there. zero_of (suc j) u there) in
    omega (arith, here, rest)

pub learns : (seat : ℕ) (v : Hand) → v.parts ≡ all_parts → Learns Balanced seat v (Whole v)
learns seat v all items views b at h =
    let parts : weigh (λ (u : Hand). u.parts) views ≡ v.parts = b.0 ∙ sym all in
    let put = total_alone (λ u. weigh h u.put) views seat v at parts (λ j u there none. ap (weigh h) (b.2 j u there none).0) in
    let taken = total_alone (λ u. weigh h u.taken) views seat v at parts (λ j u there none. ap (weigh h) (b.2 j u there none).1) in
    let left = total_alone (λ u. weigh h u.left) views seat v at parts (λ j u there none. ap (weigh h) (b.2 j u there none).2) in
    let p = b.1 h in
    omega (arith, put, taken, left, p)

count_weighs : {A : Type 0} (p : A → Bool) (xs : List A) → count_by p xs ≡ weigh (λ x. cond (p x) 1 0) xs
count_weighs p [] = refl
count_weighs p (x ∷ xs) = let r = count_weighs p xs in let s = sum_by-cons (λ y. cond (p y) 1 0) x xs in omega (arith, r, s)

-- where the queue holds nothing, what was put is what was taken and what was left
pub shared : (v : Hand) (items : List Job) → length items ≡ 0 → Whole v items → IsShared v.put v.taken v.left
shared v [] none whole p =
    let w = whole (λ x. cond (p x) 1 0) in
    omega (arith, w, count_weighs p v.put, count_weighs p v.taken, count_weighs p v.left)
shared v (x ∷ xs) none whole p = absurd (omega arith)
