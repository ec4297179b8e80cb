-- What an honest upstream wrote of a key, and what it wrote of it last.
use Rattle.std.proofs.Common.{◌≡◌, suc, Bool, true, false, cond, ◌⊎◌, inl, inr, List, [], ◌∷◌, Option, Some, None, refl, sym, ap, subst, ◌∙◌, arith}
use Rattle.std.specs.Prelude.{nat_lt}
use Rattle.adr_catch_up.proofs.Common.{All, All-cons, All-contains, All-nil, AllPairs, Contains, Contains-append_cases, Contains-append_right, Dead, IsGreatestOf, Live, Mark, MirrorKey, at, at-insert_entry, equal_from_is, insert_entry, is_below, is_eq, mirror_cmp, mirror_exact, same_Some, tied_itself, key_order, true≢false, with_rows}
use Rattle.adr_catch_up.specs.Upstream.{IsHonest, IsLatest, MayFollow}

-- ---- lists

pub head_of : {A : Type 0} (x : A) (xs : List A) → Contains (x ∷ xs) x
head_of x xs = (0, omega arith, refl)

pub only_one : {A : Type 0} (x y : A) → Contains (x ∷ []) y → x ≡ y
only_one x y = All-contains (λ z. x ≡ z) (x ∷ []) y (All-cons (λ z. x ≡ z) x [] refl (All-nil (λ z. x ≡ z)))

pub none_in : {A : Type 0} (x : A) → Contains [] x → ⊥
none_in x there = omega (arith, there.1)

with_first : {A : Type 0} (R : A → A → Type 0) (x : A) (xs : List A) → AllPairs R (x ∷ xs) → All (R x) xs
with_first R x xs h = λ k d l. h 0 (suc k) d (omega arith) (omega (arith, l))

without_first : {A : Type 0} (R : A → A → Type 0) (x : A) (xs : List A) → AllPairs R (x ∷ xs) → AllPairs R xs
without_first R x xs h = λ i j d l m. h (suc i) (suc j) d (omega (arith, l)) (omega (arith, m))

-- ---- what was written last

abbrev pub Follows : MirrorKey × Mark → MirrorKey × Mark → Type 0
Follows earlier later = earlier.0 ≡ later.0 → MayFollow earlier.1 later.1

module _ (key : MirrorKey) where
  abbrev after : List (MirrorKey × Mark) → List (MirrorKey × Mark) → Option Mark
  after m rows = at mirror_cmp key (with_rows mirror_cmp m rows)

  abbrev HasLast : List (MirrorKey × Mark) → List (MirrorKey × Mark) → Type 0
  HasLast m rows = (last : Mark) × Contains rows (key, last) × (after m rows ≡ Some last)

  -- nothing was written of a key, or something was last
  last_or : (m rows : List (MirrorKey × Mark)) → (after m rows ≡ at mirror_cmp key m) ⊎ HasLast m rows
  last_or m [] = inl refl
  last_or m (r ∷ rows) = by (last_or then rows)
    where
      then : List (MirrorKey × Mark)
      then = insert_entry mirror_cmp m r.0 r.1

      first : (b : Bool) → is_eq (mirror_cmp key r.0) ≡ b → after then rows ≡ at mirror_cmp key then → (after then rows ≡ at mirror_cmp key m) ⊎ HasLast m (r ∷ rows)
      first true is same =
          let its : key ≡ r.0 = mirror_exact key r.0 (equal_from_is (mirror_cmp key r.0) is) in
          inr (r.1, (0, omega arith, λ j. (sym its j, r.1)), same ∙ at-insert_entry key_order key r.0 r.1 m ∙ ap (λ b. cond b (Some r.1) (at mirror_cmp key m)) is)
      first false is same = inl (same ∙ at-insert_entry key_order key r.0 r.1 m ∙ ap (λ b. cond b (Some r.1) (at mirror_cmp key m)) is)

      by : (after then rows ≡ at mirror_cmp key then) ⊎ HasLast then rows → (after then rows ≡ at mirror_cmp key m) ⊎ HasLast m (r ∷ rows)
      by (inl same) = first (is_eq (mirror_cmp key r.0)) refl same
      by (inr last) = inr (last.0, Contains-append_right (r ∷ []) rows (key, last.0) last.1, last.2)

  -- what was written last is what was written, or may follow it
  abbrev IsFollowed : List (MirrorKey × Mark) → List (MirrorKey × Mark) → Mark → Type 0
  IsFollowed m rows mark = (last : Mark) × (after m rows ≡ Some last) × ((last ≡ mark) ⊎ MayFollow mark last)

  followed : (m rows : List (MirrorKey × Mark)) (mark : Mark) → IsHonest rows → Contains rows (key, mark) → IsFollowed m rows mark
  followed m [] mark honest there = absurd (none_in (key, mark) there)
  followed m (r ∷ rows) mark honest there = by (λ later. followed (insert_entry mirror_cmp m r.0 r.1) rows mark (without_first Follows r rows honest) later) (Contains-append_cases (r ∷ []) rows (key, mark) there)
    where
      then : List (MirrorKey × Mark)
      then = insert_entry mirror_cmp m r.0 r.1

      here : r ≡ (key, mark) → (after then rows ≡ at mirror_cmp key then) ⊎ HasLast then rows → IsFollowed m (r ∷ rows) mark
      here is (inl same) =
          let tied : is_eq (mirror_cmp key r.0) ≡ true = ap (λ (e : MirrorKey × Mark). is_eq (mirror_cmp key e.0)) is ∙ ap is_eq (tied_itself key_order key) in
          (r.1, same ∙ at-insert_entry key_order key r.0 r.1 m ∙ ap (λ b. cond b (Some r.1) (at mirror_cmp key m)) tied, inl (ap (λ (e : MirrorKey × Mark). e.1) is))
      here is (inr last) =
          let follows : Follows r (key, last.0) = All-contains (Follows r) rows (key, last.0) (with_first Follows r rows honest) last.1 in
          (last.0, last.2, inr (subst (λ m. MayFollow m last.0) (ap (λ (e : MirrorKey × Mark). e.1) is) (follows (ap (λ (e : MirrorKey × Mark). e.0) is))))

      by : (Contains rows (key, mark) → IsFollowed then rows mark) → Contains (r ∷ []) (key, mark) ⊎ Contains rows (key, mark) → IsFollowed m (r ∷ rows) mark
      by further (inl first) = here (only_one r (key, mark) first) (last_or then rows)
      by further (inr later) = further later

  pub written_is_followed : (written : List (MirrorKey × Mark)) (mark : Mark) → IsHonest written → Contains written (key, mark) → (last : Mark) × IsLatest written (key, last) × ((last ≡ mark) ⊎ MayFollow mark last)
  written_is_followed written mark = followed [] written mark

-- ---- what is known

-- what may follow a mark is above it
follows_above : (m n : Mark) → MayFollow m n → is_below (Some m) n ≡ true
follows_above (Live m a) (Live n b) less = rw (let is : nat_lt m n ≡ true = grind (arith, less) in is) refl
follows_above (Live m a) Dead less = refl
follows_above Dead n none = absurd none

-- where all evidence was written, and what was written last is among it, that is known
pub last_is_known : (written all : List (MirrorKey × Mark)) (key : MirrorKey) (known : Option Mark) (last : Mark) → IsHonest written → ((e : MirrorKey × Mark) → Contains all e → Contains written e) → IsGreatestOf all key known → IsLatest written (key, last) → Contains all (key, last)
    → known ≡ Some last
last_is_known written all key known last honest was greatest latest came = by known refl
  where
    by : (o : Option Mark) → known ≡ o → o ≡ Some last
    by None is = absurd (true≢false (sym (ap (λ k. is_below k last) is) ∙ greatest.none_is_above last came))
    by (Some mark) is =
        let after = written_is_followed key written mark honest (was (key, mark) (greatest.is_one_of_them mark is)) in
        let same : after.0 ≡ last = same_Some after.0 last (sym after.1 ∙ latest) in
        then mark is (after.0) same after.2
      where
        then : (mark : Mark) → known ≡ Some mark → (follower : Mark) → follower ≡ last → (follower ≡ mark) ⊎ MayFollow mark follower → Some mark ≡ Some last
        then mark is follower same (inl it) = ap (λ m. Some m) (sym it ∙ same)
        then mark is follower same (inr follows) = absurd (true≢false (sym (follows_above mark last (subst (MayFollow mark) same follows)) ∙ ap (λ k. is_below k last) (sym is) ∙ greatest.none_is_above last came))
