-- What is made of some rows of a map, each under a key of another kind: what it has at a key, and its order.
use Rattle.std.proofs.Common.{◌≡◌, true, false, ⊎_elim, List, [], ◌∷◌, Option, Some, None, Ordering, Less, refl, ap, ◌∙◌}
use Rattle.std.specs.Prelude.{IfSome, option_map, option_and_then}
use Rattle.adr_refresh.proofs.Common.{AllByRecursion, Behind, InOrder, IsStrictlySortedBy, IsTotalOrder, at, cases_Bool, cons_option, filter_map, is_eq, keys_of}
use Rattle.adr_refresh.proofs.MapLemmas.{past_head}

module _ {K V L W : Type 0} (cmp : K → K → Ordering) (other : L → L → Ordering) (g : K × V → Option (L × W)) where
  -- what is made is found at the key under which it stands
  pub at-picked : IsTotalOrder cmp → (q : K) (l : L) (h : V → Option W) → is_eq (other l l) ≡ true
      → ((e : K × V) → is_eq (cmp q e.0) ≡ true → g e ≡ option_map (λ w. (l, w)) (h e.1))
      → ((e : K × V) → is_eq (cmp q e.0) ≡ false → IfSome (g e) (λ x. is_eq (other l x.0) ≡ false))
      → (es : List (K × V)) → InOrder cmp es → at other l (filter_map g es) ≡ option_and_then h (at cmp q es)
  unfolding IsStrictlySortedBy
  at-picked order q l h tied here apart [] up = refl
  at-picked order q l h tied here apart (e ∷ es) up = by (at-picked order q l h tied here apart es up.1)
    where
      mine : (o : Option W) → at other l (filter_map g es) ≡ None → at other l (cons_option (option_map (λ w. (l, w)) o) (filter_map g es)) ≡ o
      mine None none = none
      mine (Some w) none = rw tied refl

      others : (o : Option (L × W)) → IfSome o (λ x. is_eq (other l x.0) ≡ false) → at other l (cons_option o (filter_map g es)) ≡ at other l (filter_map g es)
      others None is = refl
      others (Some x) is = rw is refl

      by : at other l (filter_map g es) ≡ option_and_then h (at cmp q es) → at other l (filter_map g (e ∷ es)) ≡ option_and_then h (at cmp q (e ∷ es))
      by rest =
          ⊎_elim
          (λ is. ap (λ o. at other l (cons_option o (filter_map g es))) (here e is) ∙ mine (h e.1) (rest ∙ ap (option_and_then h) (past_head order q e es up is)) ∙ rw is refl)
          (λ no. others (g e) (apart e no) ∙ rest ∙ rw no refl)
          (cases_Bool (is_eq (cmp q e.0)))

  -- what is made stands in order, where the keys under which it stands do as those of the rows
  abbrev Rises : Type 0
  Rises = (a b : K × V) → cmp a.0 b.0 ≡ Less → (x y : L × W) → g a ≡ Some x → g b ≡ Some y → other x.0 y.0 ≡ Less

  made_behind : Rises → (e : K × V) (x : L × W) → g e ≡ Some x → (fs : List (K × V)) → AllByRecursion (Behind cmp e.0) (keys_of fs) → AllByRecursion (Behind other x.0) (keys_of (filter_map g fs))
  made_behind rises e x is [] all = tt
  made_behind rises e x is (f ∷ fs) all = more (g f) refl (made_behind rises e x is fs all.1)
    where
      more : (o : Option (L × W)) → g f ≡ o → AllByRecursion (Behind other x.0) (keys_of (filter_map g fs)) → AllByRecursion (Behind other x.0) (keys_of (cons_option o (filter_map g fs)))
      more None none rest = rest
      more (Some y) some rest = (rises e f all.0 x y is some, rest)

  pub in_order_picked : Rises → (es : List (K × V)) → InOrder cmp es → InOrder other (filter_map g es)
  unfolding IsStrictlySortedBy
  in_order_picked rises [] up = tt
  in_order_picked rises (e ∷ es) up = one (g e) refl (in_order_picked rises es up.1)
    where
      one : (o : Option (L × W)) → g e ≡ o → InOrder other (filter_map g es) → InOrder other (cons_option o (filter_map g es))
      one None none rest = rest
      one (Some x) some rest = (made_behind rises e x some es up.0, rest)
