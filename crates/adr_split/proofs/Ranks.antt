-- The rank of an element is how many go before it, by an order without ties among the elements of a list.
use Rattle.std.proofs.Common.{◌≡◌, ℕ, suc, ◌+◌, ◌-◌, ◌<◌, ◌≤◌, Bool, true, false, not, ◌&&◌, cond, List, [], ◌∷◌, length, get_or, take, drop, count_by, ltb, refl, sym, ap, subst, ◌∙◌, ⊎_elim, arith}
use Rattle.std.specs.Cmp.{IsStrictWeakOrder}
use Rattle.std.specs.List.{All, Contains}
use Rattle.std.specs.List.Sorted.{IsPermutation, IsSortedBy}
use Rattle.std.proofs.lemmas.Bool.{cases_Bool, cases_order, both_ways, lt-ltb, le-ltb}
use Rattle.std.proofs.lemmas.List.{get_or_default, get_or-take, get_or-drop, length-take, length-drop}
use Rattle.std.proofs.lemmas.List.Sums.{sum_by-take-drop, count_by-le-length}
use Rattle.std.proofs.lemmas.List.Sorted.{sorted_far, sum_by-IsPermutation}
use Rattle.adr_split.proofs.Counts.{unit, count_cons, count_le, count_lt, count_same, count_all, count_none, count_either}

abbrev pub rank : {X : Type 0} → (X → X → Bool) → List X → X → ℕ
rank lt xs c = count_by (λ d. lt d c) xs

-- neither goes before the other
abbrev pub ties : {X : Type 0} → (X → X → Bool) → X → X → Bool
ties lt c d = not (lt d c) && not (lt c d)

-- no two elements tie
abbrev pub AreApart : {X : Type 0} → (X → X → Bool) → List X → Type 0
AreApart {X} lt xs = (c : X) → count_by (ties lt c) xs ≤ 1

before_through : {X : Type 0} (lt : X → X → Bool) (o : IsStrictWeakOrder lt) (d c t : X) → lt d c ≡ true → lt c t ≡ true → lt d t ≡ true
before_through lt o d c t p q = ⊎_elim (λ h. h) (λ h. absurd (both_ways (lt c t) (o.chain c d t (o.one_way d c p) h) q)) (cases_Bool (lt d t))

before_up : {X : Type 0} (lt : X → X → Bool) (o : IsStrictWeakOrder lt) (d c t : X) → lt c t ≡ false → lt d t ≡ true → lt d c ≡ true
before_up lt o d c t p q = ⊎_elim (λ h. h) (λ h. absurd (both_ways (lt d t) (o.chain d c t h p) q)) (cases_Bool (lt d c))

not_itself : {X : Type 0} (lt : X → X → Bool) (o : IsStrictWeakOrder lt) (c : X) → lt c c ≡ false
not_itself lt o c = ⊎_elim (λ h. o.one_way c c h) (λ h. h) (cases_Bool (lt c c))

rank_rises : {X : Type 0} (lt : X → X → Bool) (o : IsStrictWeakOrder lt) (xs : List X) (c t : X) → lt c t ≡ true → rank lt xs c ≤ rank lt xs t
rank_rises lt o xs c t h = count_le (λ d. lt d c) (λ d. lt d t) xs (λ k e l p. before_through lt o _ c t p h)

pub rank_keeps : {X : Type 0} (lt : X → X → Bool) (o : IsStrictWeakOrder lt) (xs : List X) (c t : X) → lt c t ≡ false → rank lt xs t ≤ rank lt xs c
rank_keeps lt o xs c t h = count_le (λ d. lt d t) (λ d. lt d c) xs (λ k e l p. before_up lt o _ c t h p)

rank_above : {X : Type 0} (lt : X → X → Bool) (o : IsStrictWeakOrder lt) (xs : List X) (i : ℕ) (e : X) (t : X) → i < length xs → lt (get_or xs i e) t ≡ true → rank lt xs (get_or xs i e) < rank lt xs t
rank_above lt o xs i e t l h =
    count_lt (λ d. lt d (get_or xs i e)) (λ d. lt d t) xs i e l (λ k f m p. before_through lt o _ (get_or xs i e) t p h) (not_itself lt o (get_or xs i e)) h

-- an element of the list goes before t exactly where its rank is below that of t
pub served_at : {X : Type 0} (lt : X → X → Bool) (o : IsStrictWeakOrder lt) (xs : List X) (t : X) (k : ℕ) → rank lt xs t ≡ k → All (λ c. lt c t ≡ ltb (rank lt xs c) k) xs
served_at lt o xs t k r i e l =
    ⊎_elim
    (λ h. h ∙ sym (lt-ltb (rank lt xs (get_or xs i e)) k (omega (arith, r, rank_above lt o xs i e t l h))))
    (λ h. h ∙ sym (le-ltb (rank lt xs (get_or xs i e)) k (omega (arith, r, rank_keeps lt o xs (get_or xs i e) t h))))
    (cases_Bool (lt (get_or xs i e) t))

apart_tail : {X : Type 0} (lt : X → X → Bool) (c : X) (cs : List X) → AreApart lt (c ∷ cs) → AreApart lt cs
apart_tail lt c cs a t = omega (arith, a t, count_cons (ties lt t) c cs)

tied : {X : Type 0} (lt : X → X → Bool) (c d : X) → lt d c ≡ false → lt c d ≡ false → ties lt c d ≡ true
tied lt c d p q = rw (p, q) refl

-- an element that ties with none of the others goes before one of its rank or a higher
goes_before_next : {X : Type 0} (lt : X → X → Bool) (o : IsStrictWeakOrder lt) (c : X) (cs : List X) → AreApart lt (c ∷ cs) → (t : X) → Contains cs t → rank lt cs c ≤ rank lt cs t → lt c t ≡ true
goes_before_next lt o c cs a t (i, l, e) r =
    ⊎_elim
    (λ h. h)
    (λ h. ⊎_elim
    (λ g. absurd (omega (arith, r, ap (rank lt cs) e, rank_above lt o cs i t c l (subst (λ x. lt x c ≡ true) (sym e) g))))
    (λ g. absurd (omega (arith, a c, count_cons (ties lt c) c cs, ap unit (tied lt c c (not_itself lt o c) (not_itself lt o c)), count_lt (λ _. false) (ties lt c) cs i t l (λ k d m p. absurd (both_ways false refl p)) refl (subst (λ x. ties lt c x ≡ true) (sym e) (tied lt c t g h)))))
    (cases_Bool (lt t c)))
    (cases_Bool (lt c t))

-- an element of each rank below the length
pub record AtRank {X : Type 0} (lt : X → X → Bool) (xs : List X) (k : ℕ) : Type 0 where
  pub element : X
  pub inside : Contains xs element
  pub ranked : rank lt xs element ≡ k

pub at_rank : {X : Type 0} (lt : X → X → Bool) (o : IsStrictWeakOrder lt) (xs : List X) → AreApart lt xs → (k : ℕ) → k < length xs → AtRank lt xs k
at_rank lt o [] a k l = absurd (omega arith)
at_rank lt o (c ∷ cs) a k l =
    ⊎_elim
    (λ e. record { element = c; inside = (0, omega arith, refl); ranked = omega (arith, e, count_cons (λ d. lt d c) c cs, ap unit (not_itself lt o c)) })
    (λ h. ⊎_elim
    (λ (below : k < rank lt cs c).
    let r = at_rank lt o cs (apart_tail lt c cs a) k (omega (arith, below, count_by-le-length (λ d. lt d c) cs)) in
    let away : lt c r.element ≡ false = ⊎_elim (λ t. absurd (omega (arith, r.ranked, rank_rises lt o cs c r.element t))) (λ f. f) (cases_Bool (lt c r.element)) in
    record { element = r.element; inside = (suc r.inside.0, omega (arith, r.inside.1), r.inside.2); ranked = omega (arith, r.ranked, count_cons (λ d. lt d r.element) c cs, ap unit away) })
    (λ (above : rank lt cs c < k).
    let r = at_rank lt o cs (apart_tail lt c cs a) (k - 1) (omega arith) in
    let first : lt c r.element ≡ true = goes_before_next lt o c cs a r.element r.inside (omega (arith, r.ranked)) in
    record { element = r.element; inside = (suc r.inside.0, omega (arith, r.inside.1), r.inside.2); ranked = omega (arith, r.ranked, count_cons (λ d. lt d r.element) c cs, ap unit first) })
    h)
    (cases_order k (rank lt cs c))

-- as many have a rank below k as k says
pub count_served : {X : Type 0} (lt : X → X → Bool) (o : IsStrictWeakOrder lt) (xs : List X) → AreApart lt xs → (k : ℕ) → k < length xs → count_by (λ c. ltb (rank lt xs c) k) xs ≡ k
count_served lt o xs a k l =
    let t = at_rank lt o xs a k l in
    sym (count_same (λ c. lt c t.element) (λ c. ltb (rank lt xs c) k) xs (served_at lt o xs t.element k t.ranked)) ∙ t.ranked

-- a test that k elements pass, each before all that fail, is that the rank is below k
pub served_alone : {X : Type 0} (lt : X → X → Bool) (o : IsStrictWeakOrder lt) (xs : List X) (k : ℕ) (got : X → Bool) → count_by got xs ≡ k → All (λ x. All (λ y. got x ≡ true → got y ≡ false → lt x y ≡ true) xs) xs → All (λ c. got c ≡ ltb (rank lt xs c) k) xs
served_alone lt o xs k got n first i d l =
    ⊎_elim
    (λ h.
    let above = count_lt (λ x. lt x (get_or xs i d)) got xs i d l
    (λ j e m p. ⊎_elim (λ g. g) (λ g. absurd (both_ways (lt (get_or xs j e) (get_or xs i d)) (o.one_way _ _ (first i d l j e m h g)) p)) (cases_Bool (got (get_or xs j e))))
    (not_itself lt o (get_or xs i d)) h in
    h ∙ sym (lt-ltb (rank lt xs (get_or xs i d)) k (omega (arith, n, above))))
    (λ h.
    let within = count_le got (λ x. lt x (get_or xs i d)) xs (λ j e m p. first j e m i d l p h) in
    h ∙ sym (le-ltb (rank lt xs (get_or xs i d)) k (omega (arith, n, within))))
    (cases_Bool (got (get_or xs i d)))

-- before, or tied, is not after
before_or_tied : {X : Type 0} (lt : X → X → Bool) (o : IsStrictWeakOrder lt) (t x : X) → cond (lt x t) 1 0 + cond (ties lt t x) 1 0 ≡ cond (not (lt t x)) 1 0
before_or_tied lt o t x =
    ⊎_elim
    (λ (h : lt x t ≡ true). rw (h, o.one_way x t h) refl)
    (λ (h : lt x t ≡ false). rw h (⊎_elim (λ (g : lt t x ≡ true). rw g refl) (λ (g : lt t x ≡ false). rw g refl) (cases_Bool (lt t x))))
    (cases_Bool (lt x t))

-- in a list in order the element at k has the rank k
sorted_rank : {X : Type 0} (lt : X → X → Bool) (o : IsStrictWeakOrder lt) (s : List X) → AreApart lt s → IsSortedBy lt s → (k : ℕ) (d : X) → k < length s → rank lt s (get_or s k d) ≡ k
sorted_rank {X} lt o s a up k d l =
    let t : X = get_or s k d in
    let front : count_by (λ x. lt x t) (take k s) ≤ k = omega (arith, count_by-le-length (λ x. lt x t) (take k s), length-take k s) in
    let rest : count_by (λ x. lt x t) (drop k s) ≡ 0 = count_none (λ x. lt x t) (drop k s) (λ j e m.
    let w : k + j < length s = omega (arith, m, length-drop k s) in
    subst (λ x. lt x t ≡ false) (sym (get_or-drop k s j e)) (subst (λ y. lt (get_or s (k + j) e) y ≡ false) (get_or_default s k e d l) (sorted_far lt o s up k (k + j) e (omega arith) w))) in
    let upto : count_by (λ x. not (lt t x)) (take (suc k) s) ≡ length (take (suc k) s) = count_all (λ x. not (lt t x)) (take (suc k) s) (λ j e m.
    let w : j < suc k = omega (arith, m, length-take (suc k) s) in
    subst (λ x. not (lt t x) ≡ true) (sym (get_or-take (suc k) s j e w)) (ap not (subst (λ y. lt y (get_or s j e) ≡ false) (get_or_default s k e d l) (sorted_far lt o s up j k e (omega arith) l)))) in
    omega (
      arith,
      l,
      front,
      rest,
      upto,
      length-take (suc k) s,
      a t,
      sum_by-take-drop (λ x. cond (lt x t) 1 0) s k,
      sum_by-take-drop (λ x. cond (not (lt t x)) 1 0) s (suc k),
      count_either (λ x. lt x t) (ties lt t) (λ x. not (lt t x)) (before_or_tied lt o t) s,
    )

-- so it has among the same elements in another order
pub rank_in_sorted : {X : Type 0} (lt : X → X → Bool) (o : IsStrictWeakOrder lt) (xs s : List X) → IsPermutation xs s → AreApart lt xs → IsSortedBy lt s → (k : ℕ) (d : X) → k < length s → rank lt xs (get_or s k d) ≡ k
rank_in_sorted lt o xs s perm a up k d l =
    sym (sum_by-IsPermutation (λ x. cond (lt x (get_or s k d)) 1 0) xs s perm)
    ∙ sorted_rank lt o s (λ c. omega (arith, a c, sum_by-IsPermutation (λ x. cond (ties lt c x) 1 0) xs s perm)) up k d l
