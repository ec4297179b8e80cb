-- Maps in the order of their keys: what they have at a key behind rows put one after another, and at keys that pass; that maps which have the same at
-- each key are one; and rows of several sources, each at keys of its own.
use Rattle.std.proofs.Common.{◌≡◌, Bool, true, false, cond, not, ⊎_elim, List, [], ◌∷◌, Option, Some, None, Ordering, Less, Equal, Greater, refl, sym, ap, subst, ◌∙◌}
pub use Rattle.adr_view.proofs.MapLemmas.{at-with_rows, or_none, past_head, tied}
use Rattle.adr_refresh.specs.Maps.{rows_at, rows_beside}
use Rattle.adr_refresh.proofs.Common.{CmpEqualImpliesEq, Contains, InOrder, IsDistinct-from_sorted, IsStrictlySortedBy, IsTotalOrder, at, cases_Bool, eq_by_cmp_equiv, equal_from_is, flat_map, fold-append, insert_entry, is_at, is_eq, keys_of, list_any, lookup-filter-keys, lookup-from_Contains, lookup-none, lookup_tail, none_below_head, option_or, ordering_reverse, with_rows}

-- a value, or else another
pub or_again : {V : Type 0} (o p : Option V) → option_or o (option_or o p) ≡ option_or o p
or_again None p = refl
or_again (Some v) p = refl

alike : {K : Type 0} {cmp : K → K → Ordering} → CmpEqualImpliesEq cmp → (passes : K → Bool) (q k : K) → is_at (cmp q) k ≡ true → passes k ≡ passes q
alike exact passes q k is = ap passes (sym (exact q k (equal_from_is _ is)))

module _ {K V : Type 0} {cmp : K → K → Ordering} (order : IsTotalOrder cmp) where
  -- what is among rows in order is found at its key
  pub found : (es : List (K × V)) (r : K × V) → InOrder cmp es → Contains es r → at cmp r.0 es ≡ Some r.1
  found es r up there = lookup-from_Contains (eq_by_cmp_equiv order) r.0 r.1 es (IsDistinct-from_sorted cmp (keys_of es) up) there

  -- ---- two maps

  below_head : (q : K) (e : K × V) (es : List (K × V)) → InOrder cmp (e ∷ es) → cmp q e.0 ≡ Less → at cmp q (e ∷ es) ≡ None
  below_head q e es up is = lookup-none (is_at (cmp q)) (e ∷ es) (none_below_head order q e es up is)

  at_head : (e : K × V) (es : List (K × V)) → at cmp e.0 (e ∷ es) ≡ Some e.1
  at_head e es = rw (tied order e.0) refl

  module _ (exact : CmpEqualImpliesEq cmp) where
    -- maps in order that have the same at each key are one
    pub same_maps : (es fs : List (K × V)) → InOrder cmp es → InOrder cmp fs → ((q : K) → at cmp q es ≡ at cmp q fs) → es ≡ fs
    unfolding IsStrictlySortedBy
    same_maps [] [] up rises same = refl
    same_maps [] (f ∷ fs) up rises same = absurd (let no : None ≡ Some f.1 = same f.0 ∙ at_head f fs in cc)
    same_maps (e ∷ es) [] up rises same = absurd (let no : None ≡ Some e.1 = sym (same e.0) ∙ at_head e es in cc)
    same_maps (e ∷ es) (f ∷ fs) up rises same = by (λ one. same_maps es fs up.1 rises.1 (tails one)) (cmp e.0 f.0) refl
      where
        tails : e.0 ≡ f.0 → (q : K) → at cmp q es ≡ at cmp q fs
        tails one q =
            ⊎_elim
            (λ is. past_head order q e es up is ∙ sym (past_head order q f fs rises (subst (λ (k : K). is_eq (cmp q k) ≡ true) one is)))
            (λ other. sym (lookup_tail (is_at (cmp q)) e es other) ∙ same q ∙ lookup_tail (is_at (cmp q)) f fs (subst (λ (k : K). is_eq (cmp q k) ≡ false) one other))
            (cases_Bool (is_eq (cmp q e.0)))

        by : (e.0 ≡ f.0 → es ≡ fs) → (o : Ordering) → cmp e.0 f.0 ≡ o → e ∷ es ≡ f ∷ fs
        by rest Less is = absurd (let no : None ≡ Some e.1 = sym (below_head e.0 f fs rises is) ∙ sym (same e.0) ∙ at_head e es in cc)
        by rest Greater is = absurd (let no : None ≡ Some f.1 = sym (below_head f.0 e es up (order.antisymm f.0 e.0 ∙ ap ordering_reverse is)) ∙ same f.0 ∙ at_head f fs in cc)
        by rest Equal is =
            let one : e.0 ≡ f.0 = exact e.0 f.0 is in
            let value : Some e.1 ≡ Some f.1 = sym (at_head e es) ∙ same e.0 ∙ subst (λ (k : K). at cmp k (f ∷ fs) ≡ Some f.1) (sym one) (at_head f fs) in
            let own : e.1 ≡ f.1 = cc value in
            λ i. (one i, own i) ∷ rest one i

    -- ---- the rows at the keys that pass, and the others

    pub at-rows_at : (q : K) (passes : K → Bool) (m : List (K × V)) → at cmp q (rows_at passes m) ≡ cond (passes q) (at cmp q m) None
    at-rows_at q passes m = lookup-filter-keys (is_at (cmp q)) passes (passes q) (alike exact passes q) m

    pub at-rows_beside : (q : K) (passes : K → Bool) (m : List (K × V)) → at cmp q (rows_beside passes m) ≡ cond (not (passes q)) (at cmp q m) None
    at-rows_beside q passes m = lookup-filter-keys (is_at (cmp q)) (λ k. not (passes k)) (not (passes q)) (alike exact (λ k. not (passes k)) q) m

  -- ---- rows of several sources, each of which has its own

  module _ {S : Type 0} (is_of : S → K → Bool) (source_of : K → S) (same : (s : S) (q : K) → is_of s q ≡ true → source_of q ≡ s) (f : S → List (K × V)) (up : (s : S) → InOrder cmp (f s)) (own : (s : S) (q : K) → is_of s q ≡ false → at cmp q (f s) ≡ None) where
    pub at-flat : (q : K) (m : List (K × V)) (ss : List S) → at cmp q (with_rows cmp m (flat_map f ss)) ≡ cond (list_any (λ s. is_of s q) ss) (option_or (at cmp q (f (source_of q))) (at cmp q m)) (at cmp q m)
    at-flat q m [] = refl
    at-flat q m (s ∷ ss) =
        ap (at cmp q) (fold-append (λ m r. insert_entry cmp m r.0 r.1) m (f s) (flat_map f ss))
        ∙ at-flat q (with_rows cmp m (f s)) ss
        ∙ ap (λ (x : Option V). cond (list_any (λ s. is_of s q) ss) (option_or (at cmp q (f (source_of q))) x) x) (at-with_rows order q m (f s) (up s))
        ∙ ⊎_elim
        (λ is. rw is (mine (sym (same s q is)) (list_any (λ s. is_of s q) ss)))
        (λ other. let none : at cmp q (f s) ≡ None = own s q other in rw (other, none) refl)
        (cases_Bool (is_of s q))
      where
        mine : s ≡ source_of q → (b : Bool) → cond b (option_or (at cmp q (f (source_of q))) (option_or (at cmp q (f s)) (at cmp q m))) (option_or (at cmp q (f s)) (at cmp q m)) ≡ option_or (at cmp q (f (source_of q))) (at cmp q m)
        mine is true = ap (λ (t : S). option_or (at cmp q (f (source_of q))) (option_or (at cmp q (f t)) (at cmp q m))) is ∙ or_again (at cmp q (f (source_of q))) (at cmp q m)
        mine is false = ap (λ (t : S). option_or (at cmp q (f t)) (at cmp q m)) is
