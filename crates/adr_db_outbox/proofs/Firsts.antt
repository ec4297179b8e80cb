-- Which entry is next, among the first ones of each destination: those that may leave are the first of them that may, in another order.
use Rattle.std.proofs.Common.{◌≡◌, ℕ, Bool, true, false, not, ◌&&◌, ◌||◌, cond, Some, List, [], ◌∷◌, map, filter, take, refl, sym, ap, subst, ◌∙◌, Ordering, Less, Equal, Greater, is_eq, IsPermutation, inl, inr}
use Rattle.std.specs.Prelude.{option_to_list}
use Rattle.std.proofs.Math.Bool.{and-false}
use Rattle.std.proofs.lemmas.List.Sorted.{IsPermutation-cons, IsPermutation-map, IsPermutation-middle, IsPermutation-refl, IsPermutation-trans}
use Rattle.adr_db.proofs.Common.{AllByRecursion, list_any, insert_entry, insert_key, is_at, match_ordering, nat_cmp, Has, all_weaker, and_true}
use Rattle.sqlite_trees.proofs.ListLemmas.{IsPermutation-same, filter_same}
use Rattle.adr_db.specs.Kept.{heads_of}
use Rattle.adr_db.proofs.Entries.{NumbersRise, entries_put}
use Rattle.adr_db.proofs.Rows.{number_same_is}
use Rattle.adr_delivery.specs.declared.entry.Entry.{Entry}
use Rattle.adr_delivery.specs.Deliveries.{may_leave}
use Rattle.adr_delivery.specs.Next.{may_be_next, next_after}
use Rattle.adr_db_outbox.proofs.RightHeads.{goal_of}
use Rattle.adr_db_outbox.proofs.Numbered.{turned, below_all, put_rises}

abbrev Waiting : Type 0
Waiting = ℕ × Entry

-- ---- what was seen

tied : (d k x : ℕ) → nat_cmp k x ≡ Equal → is_eq (nat_cmp d x) ≡ is_eq (nat_cmp d k)
tied d k x same = ap (λ y. is_eq (nat_cmp d y)) (sym (number_same_is k x same))

seen_more : (d k : ℕ) (seen : List ℕ) → list_any (is_at (nat_cmp d)) (insert_key nat_cmp seen k) ≡ (is_eq (nat_cmp d k) || list_any (is_at (nat_cmp d)) seen)
seen_more d k [] = refl
seen_more d k (x ∷ seen) = by (nat_cmp k x) refl (seen_more d k seen)
  where
    with_either : (a b c : Bool) → (a || (b || c)) ≡ (b || (a || c))
    with_either true true c = refl
    with_either true false c = refl
    with_either false b c = refl

    twice : (a b : Bool) → (a || b) ≡ (a || (a || b))
    twice true b = refl
    twice false b = refl

    by : (o : Ordering) → nat_cmp k x ≡ o → list_any (is_at (nat_cmp d)) (insert_key nat_cmp seen k) ≡ (is_eq (nat_cmp d k) || list_any (is_at (nat_cmp d)) seen)
        → list_any (is_at (nat_cmp d)) (match_ordering o (k ∷ x ∷ seen) (x ∷ seen) (x ∷ insert_key nat_cmp seen k)) ≡ (is_eq (nat_cmp d k) || (is_eq (nat_cmp d x) || list_any (is_at (nat_cmp d)) seen))
    by Less is more = refl
    by Equal is more = ap (λ b. b || list_any (is_at (nat_cmp d)) seen) (tied d k x is) ∙ twice (is_eq (nat_cmp d k)) _ ∙ ap (λ b. is_eq (nat_cmp d k) || (b || list_any (is_at (nat_cmp d)) seen)) (sym (tied d k x is))
    by Greater is more = ap (λ b. is_eq (nat_cmp d x) || b) more ∙ with_either (is_eq (nat_cmp d x)) (is_eq (nat_cmp d k)) _

-- ---- those that may leave

-- the entries that may leave, each before which none of its destination waits, where those before them went to the destinations that were seen
abbrev pub leaving : List ℕ → ℕ → List Waiting → List Waiting
leaving seen now [] = []
leaving seen now (r ∷ rs) = cond (may_be_next seen now r.1) (r ∷ leaving (insert_key nat_cmp seen (goal_of r)) now rs) (leaving (insert_key nat_cmp seen (goal_of r)) now rs)

-- the first of them is next
pub next_is : (seen : List ℕ) (now : ℕ) (es : List Waiting) → take 1 (leaving seen now es) ≡ option_to_list (next_after seen now es)
next_is seen now [] = refl
next_is seen now (r ∷ rs) = by (may_be_next seen now r.1) (next_is (insert_key nat_cmp seen (goal_of r)) now rs)
  where
    by : (b : Bool) → take 1 (leaving (insert_key nat_cmp seen (goal_of r)) now rs) ≡ option_to_list (next_after (insert_key nat_cmp seen (goal_of r)) now rs)
        → take 1 (cond b (r ∷ leaving (insert_key nat_cmp seen (goal_of r)) now rs) (leaving (insert_key nat_cmp seen (goal_of r)) now rs)) ≡ option_to_list (cond b (Some r) (next_after (insert_key nat_cmp seen (goal_of r)) now rs))
    by true more = refl
    by false more = more

all_leaving : (P : Waiting → Type 0) (seen : List ℕ) (now : ℕ) (es : List Waiting) → AllByRecursion P es → AllByRecursion P (leaving seen now es)
all_leaving P seen now [] all = tt
all_leaving P seen now (r ∷ rs) all = by (may_be_next seen now r.1) (all_leaving P (insert_key nat_cmp seen (goal_of r)) now rs all.1)
  where
    by : (b : Bool) → AllByRecursion P (leaving (insert_key nat_cmp seen (goal_of r)) now rs) → AllByRecursion P (cond b (r ∷ leaving (insert_key nat_cmp seen (goal_of r)) now rs) (leaving (insert_key nat_cmp seen (goal_of r)) now rs))
    by true more = (all.0, more)
    by false more = more

pub leaving_rises : (seen : List ℕ) (now : ℕ) (es : List Waiting) → NumbersRise es → NumbersRise (leaving seen now es)
leaving_rises seen now [] up = tt
leaving_rises seen now (r ∷ rs) up =
    by (may_be_next seen now r.1) (all_leaving (λ q. nat_cmp r.0 q.0 ≡ Less) (insert_key nat_cmp seen (goal_of r)) now rs up.0) (leaving_rises (insert_key nat_cmp seen (goal_of r)) now rs up.1)
  where
    by : (b : Bool) → AllByRecursion (λ q. nat_cmp r.0 q.0 ≡ Less) (leaving (insert_key nat_cmp seen (goal_of r)) now rs) → NumbersRise (leaving (insert_key nat_cmp seen (goal_of r)) now rs)
        → NumbersRise (cond b (r ∷ leaving (insert_key nat_cmp seen (goal_of r)) now rs) (leaving (insert_key nat_cmp seen (goal_of r)) now rs))
    by true below more = (below, more)
    by false below more = more

-- ---- what passes, behind a put

-- one that passes goes behind one that is put
behind : {X : Type 0} (b c : Bool) (x f : X) (xs ys : List X) → IsPermutation (cond b (x ∷ xs) xs) ys → IsPermutation (cond b (x ∷ cond c (f ∷ xs) xs) (cond c (f ∷ xs) xs)) (cond c (f ∷ ys) ys)
behind true true x f xs ys same = IsPermutation-trans _ _ _ (IsPermutation-middle (x ∷ []) f xs) (IsPermutation-cons f (x ∷ xs) ys same)
behind false true x f xs ys same = IsPermutation-cons f xs ys same
behind true false x f xs ys same = same
behind false false x f xs ys same = same

module _ {V : Type 0} where
  -- the others, of those that pass
  abbrev others : (ℕ × V → Bool) → ℕ → List (ℕ × V) → List (ℕ × V)
  others passes k = filter (λ e. passes e && not (is_eq (nat_cmp e.0 k)))

  other_is : (passes : ℕ × V → Bool) (k : ℕ) (e : ℕ × V) → nat_cmp k e.0 ≡ Less → (passes e && not (is_eq (nat_cmp e.0 k))) ≡ passes e
  other_is passes k e less = ap (λ o. passes e && not (is_eq o)) (turned k e.0 Less less) ∙ and_true (passes e)

  all_others : (passes : ℕ × V → Bool) (k : ℕ) (es : List (ℕ × V)) → AllByRecursion (λ e. nat_cmp k e.0 ≡ Less) es → others passes k es ≡ filter passes es
  all_others passes k es below =
      filter_same (λ e. passes e && not (is_eq (nat_cmp e.0 k))) passes es (all_weaker (λ (e : ℕ × V). nat_cmp k e.0 ≡ Less) (λ (e : ℕ × V). (passes e && not (is_eq (nat_cmp e.0 k))) ≡ passes e) (other_is passes k) es below)

  -- what passes behind a put: what was put, if it does, and the others that do
  filter_put : (passes : ℕ × V → Bool) (k : ℕ) (v : V) (es : List (ℕ × V)) → NumbersRise es → IsPermutation (cond (passes (k, v)) ((k, v) ∷ others passes k es) (others passes k es)) (filter passes (insert_entry nat_cmp es k v))
  filter_put passes k v [] up = IsPermutation-refl _
  filter_put passes k v (e ∷ es) up = by (nat_cmp k e.0) refl (filter_put passes k v es up.1)
    where
      by : (o : Ordering) → nat_cmp k e.0 ≡ o → IsPermutation (cond (passes (k, v)) ((k, v) ∷ others passes k es) (others passes k es)) (filter passes (insert_entry nat_cmp es k v))
          → IsPermutation (cond (passes (k, v)) ((k, v) ∷ others passes k (e ∷ es)) (others passes k (e ∷ es))) (filter passes (match_ordering o ((k, v) ∷ e ∷ es) ((e.0, v) ∷ es) (e ∷ insert_entry nat_cmp es k v)))
      by Less is more =
          IsPermutation-same _ _ (ap (λ (l : List (ℕ × V)). cond (passes (k, v)) ((k, v) ∷ l) l) (all_others passes k (e ∷ es) (is, below_all k e.0 es is up.0)))
      by Equal is more =
          let one = number_same_is k e.0 is in
          let below = all_weaker (λ (y : ℕ × V). nat_cmp e.0 y.0 ≡ Less) (λ (y : ℕ × V). nat_cmp k y.0 ≡ Less) (λ y below. ap (λ n. nat_cmp n y.0) one ∙ below) es up.0 in
          let none : (passes e && not (is_eq (nat_cmp e.0 k))) ≡ false = ap (λ o. passes e && not (is_eq o)) (turned k e.0 Equal is) ∙ and-false (passes e) in
          let left : others passes k (e ∷ es) ≡ filter passes es = ap (λ (b : Bool). cond b (e ∷ others passes k es) (others passes k es)) none ∙ all_others passes k es below in
          IsPermutation-same _ _
          (ap (λ (l : List (ℕ × V)). cond (passes (k, v)) ((k, v) ∷ l) l) left ∙ ap (λ (n : ℕ). cond (passes (n, v)) ((n, v) ∷ filter passes es) (filter passes es)) one)
      by Greater is more =
          let some : (passes e && not (is_eq (nat_cmp e.0 k))) ≡ passes e = ap (λ o. passes e && not (is_eq o)) (turned k e.0 Greater is) ∙ and_true (passes e) in
          subst (λ (b : Bool). IsPermutation (cond (passes (k, v)) ((k, v) ∷ cond b (e ∷ others passes k es) (others passes k es)) (cond b (e ∷ others passes k es) (others passes k es))) (filter passes (e ∷ insert_entry nat_cmp es k v))) (sym some)
          (behind (passes (k, v)) (passes e) (k, v) e (others passes k es) (filter passes (insert_entry nat_cmp es k v)) more)

-- ---- the first entries, whole

-- the first entry of each destination
abbrev pub firsts_of : List Waiting → List (ℕ × Waiting)
firsts_of [] = []
firsts_of (e ∷ es) = insert_entry nat_cmp (firsts_of es) (goal_of e) e

-- its number alone
abbrev pub numbered : ℕ × Waiting → ℕ × ℕ
numbered h = (h.0, h.1.0)

put_mapped : (k : ℕ) (e : Waiting) (hs : List (ℕ × Waiting)) → insert_entry nat_cmp (map numbered hs) k e.0 ≡ map numbered (insert_entry nat_cmp hs k e)
put_mapped k e [] = refl
put_mapped k e (h ∷ hs) = by (nat_cmp k h.0) (put_mapped k e hs)
  where
    by : (o : Ordering) → insert_entry nat_cmp (map numbered hs) k e.0 ≡ map numbered (insert_entry nat_cmp hs k e)
        → match_ordering o ((k, e.0) ∷ numbered h ∷ map numbered hs) ((h.0, e.0) ∷ map numbered hs) (numbered h ∷ insert_entry nat_cmp (map numbered hs) k e.0) ≡ map numbered (match_ordering o ((k, e) ∷ h ∷ hs) ((h.0, e) ∷ hs) (h ∷ insert_entry nat_cmp hs k e))
    by Less more = refl
    by Equal more = refl
    by Greater more = ap (λ (l : List (ℕ × ℕ)). numbered h ∷ l) more

pub heads_are : (es : List Waiting) → heads_of es ≡ map numbered (firsts_of es)
heads_are [] = refl
heads_are (e ∷ es) = ap (λ (hs : List (ℕ × ℕ)). insert_entry nat_cmp hs (goal_of e) e.0) (heads_are es) ∙ put_mapped (goal_of e) e (firsts_of es)

firsts_rise : (es : List Waiting) → NumbersRise (firsts_of es)
firsts_rise [] = tt
firsts_rise (e ∷ es) = put_rises (goal_of e) e (firsts_of es) (firsts_rise es)

-- each of them waits
pub firsts_wait : (es : List Waiting) → AllByRecursion (λ h. Has es h.1) (firsts_of es)
firsts_wait [] = tt
firsts_wait (e ∷ es) =
    entries_put nat_cmp (Has (e ∷ es)) (firsts_of es) (goal_of e) e (all_weaker (λ (h : ℕ × Waiting). Has es h.1) (λ (h : ℕ × Waiting). Has (e ∷ es) h.1) (λ h has. inr has) (firsts_of es) (firsts_wait es)) (inl refl)

-- whether it may leave, and goes to no destination that was seen
abbrev unseen : List ℕ → ℕ → ℕ × Waiting → Bool
unseen seen now h = may_leave now h.1.1.delivery && not (list_any (is_at (nat_cmp h.0)) seen)

unseen_more : (seen : List ℕ) (now k : ℕ) (h : ℕ × Waiting) → unseen (insert_key nat_cmp seen k) now h ≡ (unseen seen now h && not (is_eq (nat_cmp h.0 k)))
unseen_more seen now k h =
    ap (λ b. may_leave now h.1.1.delivery && not b) (seen_more h.0 k seen) ∙ apart (may_leave now h.1.1.delivery) (is_eq (nat_cmp h.0 k)) (list_any (is_at (nat_cmp h.0)) seen)
  where
    apart : (a x s : Bool) → (a && not (x || s)) ≡ ((a && not s) && not x)
    apart true true true = refl
    apart true true false = refl
    apart true false true = refl
    apart true false false = refl
    apart false x s = refl

leaving_are : (seen : List ℕ) (now : ℕ) (es : List Waiting) → IsPermutation (leaving seen now es) (map (λ h. h.1) (filter (unseen seen now) (firsts_of es)))
leaving_are seen now [] = IsPermutation-refl _
leaving_are seen now (r ∷ rs) =
    IsPermutation-trans _ _ _ (by (may_be_next seen now r.1) (subst (λ (hs : List (ℕ × Waiting)). IsPermutation (leaving more now rs) (map (λ h. h.1) hs)) same (leaving_are more now rs)))
    (IsPermutation-map (λ (h : ℕ × Waiting). h.1) _ _ (filter_put (unseen seen now) (goal_of r) r (firsts_of rs) (firsts_rise rs)))
  where
    more : List ℕ
    more = insert_key nat_cmp seen (goal_of r)

    left : List (ℕ × Waiting)
    left = others (unseen seen now) (goal_of r) (firsts_of rs)

    same : filter (unseen more now) (firsts_of rs) ≡ left
    same = ap (λ (p : ℕ × Waiting → Bool). filter p (firsts_of rs)) (λ i h. unseen_more seen now (goal_of r) h i)

    by : (b : Bool) → IsPermutation (leaving more now rs) (map (λ h. h.1) left) → IsPermutation (cond b (r ∷ leaving more now rs) (leaving more now rs)) (map (λ h. h.1) (cond b ((goal_of r, r) ∷ left) left))
    by true rest = IsPermutation-cons r _ _ rest
    by false rest = rest

-- those that may leave are the first entries that may
pub all_leaving_are : (now : ℕ) (es : List Waiting) → IsPermutation (leaving [] now es) (map (λ h. h.1) (filter (λ h. may_leave now h.1.1.delivery) (firsts_of es)))
all_leaving_are now es = subst (λ (p : ℕ × Waiting → Bool). IsPermutation (leaving [] now es) (map (λ h. h.1) (filter p (firsts_of es)))) (λ i h. and_true (may_leave now h.1.1.delivery) i) (leaving_are [] now es)
