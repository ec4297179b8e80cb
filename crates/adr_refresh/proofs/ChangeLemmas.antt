-- What a list of changes has at a key, and the stamps after them: by what the one map has and the other.
use Rattle.std.proofs.Common.{◌≡◌, ℕ, Bool, true, false, cond, ◌||◌, ⊎_elim, List, [], ◌∷◌, ◌++◌, map, fold, Option, Some, None, Ordering, Less, Equal, Greater, refl, sym, ap, subst, ◌∙◌}
use Rattle.std.specs.Prelude.{is_some, option_map}
use Rattle.adr_objects.specs.declared.shown.Stamps.{Stamps}
use Rattle.adr_state.specs.declared.keys.ViewKey.{ViewKey}
use Rattle.adr_view.specs.declared.changes.Change.{Change}
use Rattle.adr_view.specs.declared.changes.Operation.{Operation}
use Rattle.adr_view.specs.declared.changes.Operation.TheVariants as operation
use Rattle.adr_view.specs.declared.view.Content.{Content}
use Rattle.adr_view.specs.Changes.{is_change_to_go, both_keys, change_by, changes, stamps_by, stamps_for, restamped}
use Rattle.adr_view.specs.Same.{is_same_content}
use Rattle.adr_view.proofs.LawLemmas.{contents_equal}
use Rattle.adr_refresh.specs.Refresh.{as_row, changes_told}
use Rattle.adr_refresh.proofs.Common.{All, AllByRecursion, All-cons, All-head, All-insert_key, All-nil, All-tail, All-weaker, Behind, CmpEqualImpliesEq, InOrder, IsStrictlySortedBy, IsTotalOrder, alike_right, at, cases_Bool, cons_option, each_there, equal_from_is, filter_map, in_order_rows, insert_key, is_at, is_eq, keys_of, list_any, map_filter_map, match_ordering, none_sorted, option_or, ordering_reverse, through, view_cmp, view_exact, view_total}
use Rattle.adr_refresh.proofs.MapLemmas.{at-with_rows, or_none}

-- ---- keys, put one after another

module _ {K : Type 0} {cmp : K → K → Ordering} (order : IsTotalOrder cmp) where
  keys_in_order_put : (ks : List K) (k : K) → IsStrictlySortedBy cmp ks → IsStrictlySortedBy cmp (insert_key cmp ks k)
  unfolding IsStrictlySortedBy
  keys_in_order_put [] k h = (tt, tt)
  keys_in_order_put (x ∷ ks) k h = elim (cmp k x) as (λ o. cmp k x ≡ o → IsStrictlySortedBy cmp (match_ordering o (k ∷ x ∷ ks) (x ∷ ks) (x ∷ insert_key cmp ks k))) [
    | Less ↦ λ is. ((is, through (Behind cmp x) (Behind cmp k) ks ks (All-weaker (Behind cmp x) (Behind cmp k) (λ y less. order.trans k x y is less) ks) h.0), h)
    | Equal ↦ λ is. h
    | Greater ↦ λ is.
        let behind : cmp x k ≡ Less = order.antisymm x k ∙ ap ordering_reverse is in
        (through (Behind cmp x) (Behind cmp x) ks (insert_key cmp ks k) (λ all. All-insert_key cmp k (Behind cmp x) ks all behind) h.0, keys_in_order_put ks k h.1)
  ] refl

  any-put : (q : K) (ks : List K) (k : K) → list_any (is_at (cmp q)) (insert_key cmp ks k) ≡ (is_eq (cmp q k) || list_any (is_at (cmp q)) ks)
  any-put q [] k = refl
  any-put q (x ∷ ks) k = elim (cmp k x) as (λ o. cmp k x ≡ o → list_any (is_at (cmp q)) (match_ordering o (k ∷ x ∷ ks) (x ∷ ks) (x ∷ insert_key cmp ks k)) ≡ (is_eq (cmp q k) || (is_eq (cmp q x) || list_any (is_at (cmp q)) ks))) [
    | Less ↦ λ h. refl
    | Equal ↦ λ h. rw (← alike_right order k x q h) (twice (is_eq (cmp q k)) (list_any (is_at (cmp q)) ks))
    | Greater ↦ λ h. ap (λ b. is_eq (cmp q x) || b) (any-put q ks k) ∙ with_either (is_eq (cmp q x)) (is_eq (cmp q k)) (list_any (is_at (cmp q)) ks)
  ] refl
    where
      with_either : (a b c : Bool) → (a || (b || c)) ≡ (b || (a || c))
      with_either true true c = refl
      with_either true false c = refl
      with_either false b c = refl

      twice : (a b : Bool) → (a || b) ≡ (a || (a || b))
      twice true b = refl
      twice false b = refl

  module _ {V : Type 0} where
    abbrev pub with_keys : List K → List (K × V) → List K
    with_keys keys rows = fold (λ keys r. insert_key cmp keys r.0) keys rows

    pub with_keys_in_order : (keys : List K) (rows : List (K × V)) → IsStrictlySortedBy cmp keys → IsStrictlySortedBy cmp (with_keys keys rows)
    with_keys_in_order keys [] h = h
    with_keys_in_order keys (r ∷ rows) h = with_keys_in_order (insert_key cmp keys r.0) rows (keys_in_order_put keys r.0 h)

    pub any-with_keys : (q : K) (keys : List K) (rows : List (K × V)) → list_any (is_at (cmp q)) (with_keys keys rows) ≡ (is_some (at cmp q rows) || list_any (is_at (cmp q)) keys)
    any-with_keys q keys [] = refl
    any-with_keys q keys (r ∷ rows) = any-with_keys q (insert_key cmp keys r.0) rows ∙ ap (λ b. is_some (at cmp q rows) || b) (any-put q keys r.0) ∙ by (is_eq (cmp q r.0)) (at cmp q rows) (list_any (is_at (cmp q)) keys)
      where
        by : (b : Bool) (o : Option V) (c : Bool) → (is_some o || (b || c)) ≡ (is_some (cond b (Some r.1) o) || c)
        by true None c = refl
        by true (Some v) c = refl
        by false o c = refl

  -- ---- what is made of each key, under it

  module _ {X : Type 0} (exact : CmpEqualImpliesEq cmp) (g : K → Option X) where
    abbrev pub under : K → Option (K × X)
    under k = option_map (λ x. (k, x)) (g k)

    at_one : (q k : K) (o : Option X) (rest : List (K × X)) → at cmp q (cons_option (option_map (λ x. (k, x)) o) rest) ≡ cond (is_eq (cmp q k)) (option_or o (at cmp q rest)) (at cmp q rest)
    at_one q k None rest = by (is_eq (cmp q k))
      where
        by : (b : Bool) → at cmp q rest ≡ cond b (at cmp q rest) (at cmp q rest)
        by true = refl
        by false = refl
    at_one q k (Some x) rest = refl

    pub at-under : (q : K) (ks : List K) → at cmp q (filter_map under ks) ≡ cond (list_any (is_at (cmp q)) ks) (g q) None
    at-under q [] = refl
    at-under q (k ∷ ks) =
        at_one q k (g k) (filter_map under ks)
        ∙ ap (λ (o : Option X). cond (is_eq (cmp q k)) (option_or (g k) o) o) (at-under q ks)
        ∙ ⊎_elim
        (λ is. rw is (mine (exact q k (equal_from_is _ is)) (list_any (is_at (cmp q)) ks)))
        (λ no. rw no refl)
        (cases_Bool (is_eq (cmp q k)))
      where
        by : (b : Bool) (o : Option X) → option_or o (cond b o None) ≡ o
        by true None = refl
        by true (Some x) = refl
        by false None = refl
        by false (Some x) = refl

        mine : q ≡ k → (b : Bool) → option_or (g k) (cond b (g q) None) ≡ g q
        mine is b = ap (λ (j : K). option_or (g j) (cond b (g q) None)) (sym is) ∙ by b (g q)

    one_behind : (k y : K) (o : Option X) (rest : List (K × X)) → Behind cmp k y → All (Behind cmp k) (keys_of rest) → All (Behind cmp k) (keys_of (cons_option (option_map (λ x. (y, x)) o) rest))
    one_behind k y None rest first all = all
    one_behind k y (Some x) rest first all = All-cons (Behind cmp k) y (keys_of rest) first all

    all_behind : (k : K) (ys : List K) → All (Behind cmp k) ys → All (Behind cmp k) (keys_of (filter_map under ys))
    all_behind k [] all = All-nil (Behind cmp k)
    all_behind k (y ∷ ys) all = one_behind k y (g y) (filter_map under ys) (All-head (Behind cmp k) y ys all) (all_behind k ys (All-tail (Behind cmp k) y ys all))

    one_in_order : (k : K) (o : Option X) (rest : List (K × X)) → AllByRecursion (Behind cmp k) (keys_of rest) → InOrder cmp rest → InOrder cmp (cons_option (option_map (λ x. (k, x)) o) rest)
    unfolding IsStrictlySortedBy
    one_in_order k None rest behind h = h
    one_in_order k (Some x) rest behind h = (behind, h)

    pub in_order_under : (ks : List K) → IsStrictlySortedBy cmp ks → InOrder cmp (filter_map under ks)
    unfolding IsStrictlySortedBy
    in_order_under [] h = tt
    in_order_under (k ∷ ks) h = one_in_order k (g k) (filter_map under ks) (through (Behind cmp k) (Behind cmp k) ks (keys_of (filter_map under ks)) (all_behind k ks) h.0) (in_order_under ks h.1)

-- ---- changes

at-append : {V : Type 0} (q : ViewKey) (xs ys : List (ViewKey × V)) → at view_cmp q (xs ++ ys) ≡ option_or (at view_cmp q xs) (at view_cmp q ys)
at-append q [] ys = refl
at-append {V} q (x ∷ xs) ys = ap (cond (is_eq (view_cmp q x.0)) (Some x.1)) (at-append q xs ys) ∙ by (is_eq (view_cmp q x.0)) (at view_cmp q xs)
  where
    by : (b : Bool) (o : Option V) → cond b (Some x.1) (option_or o (at view_cmp q ys)) ≡ option_or (cond b (Some x.1) o) (at view_cmp q ys)
    by true o = refl
    by false o = refl

-- what happens at a key
abbrev pub change_at : ViewKey → Option Content → Option Content → Option Operation
change_at k old new = option_map (λ (c : Change). c.operation) (change_by k old new)

as_told : (k : ViewKey) (old new : Option Content) → option_map as_row (change_by k old new) ≡ option_map (λ o. (k, o)) (change_at k old new)
as_told k None None = refl
as_told k None (Some new) = refl
as_told k (Some old) None = by (is_change_to_go k)
  where
    by : (b : Bool) → option_map as_row (cond b (Some (record { key = k; operation = operation.Delete })) None) ≡ option_map (λ o. (k, o)) (option_map (λ (c : Change). c.operation) (cond b (Some (record { key = k; operation = operation.Delete })) None))
    by true = refl
    by false = refl
as_told k (Some old) (Some new) = by (is_same_content old new)
  where
    by : (b : Bool) → option_map as_row (cond b None (Some (record { key = k; operation = operation.Put }))) ≡ option_map (λ o. (k, o)) (option_map (λ (c : Change). c.operation) (cond b None (Some (record { key = k; operation = operation.Put }))))
    by true = refl
    by false = refl

told_are : (before after : List (ViewKey × Content)) → changes_told before after ≡ filter_map (λ k. option_map (λ o. (k, o)) (change_at k (at view_cmp k before) (at view_cmp k after))) (both_keys before after)
unfolding changes
told_are before after =
    map_filter_map (λ k. change_by k (at view_cmp k before) (at view_cmp k after)) as_row (λ k. option_map (λ o. (k, o)) (change_at k (at view_cmp k before) (at view_cmp k after))) (both_keys before after)
    (each_there (λ k. option_map as_row (change_by k (at view_cmp k before) (at view_cmp k after)) ≡ option_map (λ o. (k, o)) (change_at k (at view_cmp k before) (at view_cmp k after))) (both_keys before after) (λ k there. as_told k (at view_cmp k before) (at view_cmp k after)))

pub at-changes : (q : ViewKey) (before after : List (ViewKey × Content)) → at view_cmp q (changes_told before after) ≡ change_at q (at view_cmp q before) (at view_cmp q after)
at-changes q before after =
    ap (at view_cmp q) (told_are before after)
    ∙ at-under view_total view_exact (λ k. change_at k (at view_cmp k before) (at view_cmp k after)) q (both_keys before after)
    ∙ ap (λ b. cond b (change_at q (at view_cmp q before) (at view_cmp q after)) None) (any-with_keys view_total q [] (before ++ after) ∙ ap (λ o. is_some o || false) (at-append q before after))
    ∙ by (at view_cmp q before) (at view_cmp q after)
  where
    by : (old new : Option Content) → cond (is_some (option_or old new) || false) (change_at q old new) None ≡ change_at q old new
    by None None = refl
    by None (Some c) = refl
    by (Some c) None = refl
    by (Some c) (Some d) = refl

pub changes_in_order : (before after : List (ViewKey × Content)) → InOrder view_cmp (changes_told before after)
changes_in_order before after =
    subst (InOrder view_cmp) (sym (told_are before after))
    (in_order_under view_total view_exact (λ k. change_at k (at view_cmp k before) (at view_cmp k after)) (both_keys before after) (with_keys_in_order view_total [] (before ++ after) (none_sorted view_cmp)))

-- what stays is no change
pub same_itself : (c : Content) → is_same_content c c ≡ true
same_itself c = (contents_equal c c).1 refl

pub no_change : (q : ViewKey) (o : Option Content) → change_at q o o ≡ None
no_change q None = refl
no_change q (Some c) = rw (same_itself c) refl

-- ---- stamps

-- what stamps a key has after: those of what it shows, if it shows something
abbrev pub stamp_at : Option Content → Option Content → ℕ → Option Stamps → Option Stamps
stamp_at old None now stamps = None
stamp_at old (Some new) now stamps = Some (stamps_by old stamps now new)

pub at-restamped : (q : ViewKey) (stamps : List (ViewKey × Stamps)) (before after : List (ViewKey × Content)) (now : ℕ) → InOrder view_cmp after
    → at view_cmp q (restamped stamps before after now) ≡ stamp_at (at view_cmp q before) (at view_cmp q after) now (at view_cmp q stamps)
unfolding restamped
at-restamped q stamps before after now up = at-with_rows view_total q [] (map (stamps_for stamps before now) after) (mapped_in_order after up) ∙ or_none (at view_cmp q (map (stamps_for stamps before now) after)) ∙ at-mapped after
  where
    same_keys : (rows : List (ViewKey × Content)) → keys_of (map (stamps_for stamps before now) rows) ≡ keys_of rows
    same_keys [] = refl
    same_keys (r ∷ rows) = ap (λ ks. r.0 ∷ ks) (same_keys rows)

    mapped_in_order : (rows : List (ViewKey × Content)) → InOrder view_cmp rows → InOrder view_cmp (map (stamps_for stamps before now) rows)
    mapped_in_order rows up = subst (IsStrictlySortedBy view_cmp) (sym (same_keys rows)) up

    at-mapped : (rows : List (ViewKey × Content)) → at view_cmp q (map (stamps_for stamps before now) rows) ≡ stamp_at (at view_cmp q before) (at view_cmp q rows) now (at view_cmp q stamps)
    at-mapped [] = refl
    at-mapped (r ∷ rows) =
        ap (cond (is_eq (view_cmp q r.0)) (Some (stamps_by (at view_cmp r.0 before) (at view_cmp r.0 stamps) now r.1))) (at-mapped rows)
        ∙ ⊎_elim
        (λ is. let same : q ≡ r.0 = view_exact q r.0 (equal_from_is _ is) in rw is (ap (λ (k : ViewKey). Some (stamps_by (at view_cmp k before) (at view_cmp k stamps) now r.1)) (sym same)))
        (λ other. rw other refl)
        (cases_Bool (is_eq (view_cmp q r.0)))

pub restamped_in_order : (stamps : List (ViewKey × Stamps)) (before after : List (ViewKey × Content)) (now : ℕ) → InOrder view_cmp (restamped stamps before after now)
unfolding restamped
restamped_in_order stamps before after now = in_order_rows view_total [] (map (stamps_for stamps before now) after) (none_sorted view_cmp)

-- stamped twice for one change is stamped once
pub stamped_twice : (old new : Option Content) (now : ℕ) (stamps : Option Stamps) → stamp_at old new now (stamp_at old new now stamps) ≡ stamp_at old new now stamps
stamped_twice old None now stamps = refl
stamped_twice None (Some new) now stamps = refl
stamped_twice (Some old) (Some new) now None = by (is_same_content old new)
  where
    fresh : Stamps
    fresh = record { created = now; modified = now }

    by : (b : Bool) → Some (cond b fresh (record fresh { modified = now })) ≡ Some fresh
    by true = refl
    by false = refl
stamped_twice (Some old) (Some new) now (Some stamps) = by (is_same_content old new)
  where
    by : (b : Bool) → Some (cond b (cond b stamps (record stamps { modified = now })) (record (cond b stamps (record stamps { modified = now })) { modified = now })) ≡ Some (cond b stamps (record stamps { modified = now }))
    by true = refl
    by false = refl

-- what is there and stays keeps the stamps that it has
pub kept_stamps : (o : Option Content) (now : ℕ) (stamps : Option Stamps) → is_some stamps ≡ is_some o → stamp_at o o now stamps ≡ stamps
kept_stamps None now None h = refl
kept_stamps None now (Some s) h = absurd cc
kept_stamps (Some c) now None h = absurd cc
kept_stamps (Some c) now (Some s) h = rw (same_itself c) refl

-- after a change, what is there has stamps
pub has_stamps : (old new : Option Content) (now : ℕ) (stamps : Option Stamps) → is_some (stamp_at old new now stamps) ≡ is_some new
has_stamps old None now stamps = refl
has_stamps old (Some new) now stamps = refl
