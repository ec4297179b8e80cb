-- Lists that are made by map, filter_map and flat_map: what they contain, what holds of each element, and in which order the keys of rows stand.
use Rattle.std.proofs.Common.{◌≡◌, ℕ, suc, ◌+◌, Bool, true, false, cond, ◌||◌, List, [], ◌∷◌, ◌++◌, length, map, filter, Option, Some, None, Ordering, Less, Equal, Greater, refl, sym, ap, ap₂, subst, ◌∙◌, arith}
use Rattle.std.specs.Prelude.{IfSome, option_map, slice_get}
use Rattle.std.specs.List.{filter_map, cons_option, enumerate_from, list_any}
use Rattle.std.proofs.lemmas.List.Elements.{Contains-append_left, Contains-append_right}
use Rattle.std.proofs.lemmas.List.FromFn.{length-enumerate_from, get_or-enumerate_from}
use Rattle.std.proofs.lemmas.Option.{IfSome_then}
use Rattle.adr_view.proofs.Common.{All, AllByRecursion, CmpEqualImpliesEq, at, append-nil, filter-append, is_eq, Contains, flat_map, IsStrictlySortedBy, keys_of, get_or-map, All-append, All-cons, All-contains, All-from_recursion, All-head, All-map, All-nil, All-tail, All-weaker, recursion_from_All, length-map, get_or_from_slice_get, slice_get_within}
use Rattle.adr_view.proofs.OrderLemmas.{InOrder, Behind, each_row, through}
use Rattle.adr_view.proofs.RowLemmas.{each_there}

-- ---- what they contain

pub in_map : {A B : Type 0} (f : A → B) (xs : List A) (x : A) → Contains xs x → Contains (map f xs) (f x)
in_map f xs x there = (there.0, omega (arith, there.1, length-map xs f), get_or-map f xs there.0 x (f x) there.1 ∙ ap f there.2)

pub from_map : {A B : Type 0} (f : A → B) (xs : List A) (y : B) → Contains (map f xs) y → (x : A) × Contains xs x × (y ≡ f x)
from_map {A} {B} f xs y =
    let P : B → Type 0 = λ y. (x : A) × Contains xs x × (y ≡ f x) in
    All-contains P (map f xs) y (All-map P f xs (each_there (λ x. P (f x)) xs (λ x there. (x, there, refl))))

module _ {A B : Type 0} (f : A → List B) where
  pub in_flat : (xs : List A) (x : A) (y : B) → Contains xs x → Contains (f x) y → Contains (flat_map f xs) y
  in_flat xs x y = All-contains (λ a. Contains (f a) y → Contains (flat_map f xs) y) xs x (each xs)
    where
      each : (zs : List A) → All (λ z. Contains (f z) y → Contains (flat_map f zs) y) zs
      each [] = All-nil (λ z. Contains (f z) y → Contains [] y)
      each (z ∷ zs) =
          All-cons (λ x. Contains (f x) y → Contains (f z ++ flat_map f zs) y) z zs (Contains-append_left (f z) (flat_map f zs) y)
          (All-weaker (λ x. Contains (f x) y → Contains (flat_map f zs) y) (λ x. Contains (f x) y → Contains (f z ++ flat_map f zs) y) (λ x h there. Contains-append_right (f z) (flat_map f zs) y (h there)) zs (each zs))

  pub all_flat : (P : B → Type 0) (xs : List A) → All (λ x. All P (f x)) xs → All P (flat_map f xs)
  all_flat P [] h = All-nil P
  all_flat P (x ∷ xs) h = All-append P (f x) (flat_map f xs) (All-head (λ y. All P (f y)) x xs h) (all_flat P xs (All-tail (λ y. All P (f y)) x xs h))

  pub from_flat : (xs : List A) (y : B) → Contains (flat_map f xs) y → (x : A) × Contains xs x × Contains (f x) y
  from_flat xs y =
      let P : B → Type 0 = λ y. (x : A) × Contains xs x × Contains (f x) y in
      All-contains P (flat_map f xs) y (all_flat P xs (each_there (λ x. All P (f x)) xs (λ x there. each_there P (f x) (λ y here. (x, there, here)))))

-- each that passes
pub in_filter : {A : Type 0} (passes : A → Bool) (xs : List A) (x : A) → passes x ≡ true → Contains xs x → Contains (filter passes xs) x
in_filter {A} passes xs x passed there = All-contains (λ a. passes a ≡ true → Contains (filter passes xs) a) xs x (each xs) there passed
  where
    more : (b : Bool) (z a : A) (zs : List A) → Contains (filter passes zs) a → Contains (cond b (z ∷ filter passes zs) (filter passes zs)) a
    more true z a zs there = Contains-append_right (z ∷ []) (filter passes zs) a there
    more false z a zs there = there

    each : (zs : List A) → All (λ a. passes a ≡ true → Contains (filter passes zs) a) zs
    each [] = All-nil (λ a. passes a ≡ true → Contains [] a)
    each (z ∷ zs) =
        All-cons (λ a. passes a ≡ true → Contains (filter passes (z ∷ zs)) a) z zs (λ is. rw is (0, omega arith, refl))
        (All-weaker (λ a. passes a ≡ true → Contains (filter passes zs) a) (λ a. passes a ≡ true → Contains (filter passes (z ∷ zs)) a) (λ a h is. more (passes z) z a zs (h is)) zs (each zs))

-- what stands at a place, with that place
pub placed : {A : Type 0} (xs : List A) (k : ℕ) (x : A) → slice_get xs k ≡ Some x → Contains (enumerate_from 0 xs) (k, x)
placed xs k x is =
    let within = slice_get_within xs k x is in
    let first : 0 + k ≡ k = omega arith in
    (k, omega (arith, within, length-enumerate_from 0 xs), get_or-enumerate_from 0 xs k (k, x) within ∙ λ j. (first j, get_or_from_slice_get xs k x x is j))

-- ---- what holds of each

module _ {A B : Type 0} (f : A → Option B) where
  pub all_filter_map : (P : A → Type 0) (Q : B → Type 0) → ((x : A) → P x → IfSome (f x) Q) → (xs : List A) → All P xs → All Q (filter_map f xs)
  all_filter_map P Q made [] h = All-nil Q
  all_filter_map P Q made (x ∷ xs) h = one (f x) (made x (All-head P x xs h)) (all_filter_map P Q made xs (All-tail P x xs h))
    where
      one : (o : Option B) → IfSome o Q → All Q (filter_map f xs) → All Q (cons_option o (filter_map f xs))
      one None first rest = rest
      one (Some y) first rest = All-cons Q y (filter_map f xs) first rest

  -- each that is made of one
  pub in_filter_map : (xs : List A) (x : A) (y : B) → f x ≡ Some y → Contains xs x → Contains (filter_map f xs) y
  in_filter_map xs x y made there = All-contains (λ a. f a ≡ Some y → Contains (filter_map f xs) y) xs x (each xs) there made
    where
      more : (o : Option B) (zs : List A) → Contains (filter_map f zs) y → Contains (cons_option o (filter_map f zs)) y
      more None zs there = there
      more (Some z) zs there = Contains-append_right (z ∷ []) (filter_map f zs) y there

      each : (zs : List A) → All (λ a. f a ≡ Some y → Contains (filter_map f zs) y) zs
      each [] = All-nil (λ a. f a ≡ Some y → Contains [] y)
      each (z ∷ zs) =
          All-cons (λ a. f a ≡ Some y → Contains (filter_map f (z ∷ zs)) y) z zs (λ is. rw is (0, omega arith, refl))
          (All-weaker (λ a. f a ≡ Some y → Contains (filter_map f zs) y) (λ a. f a ≡ Some y → Contains (filter_map f (z ∷ zs)) y) (λ a h is. more (f z) zs (h is)) zs (each zs))

  pub from_filter_map : (xs : List A) (y : B) → Contains (filter_map f xs) y → (x : A) × Contains xs x × (f x ≡ Some y)
  from_filter_map xs y = All-contains IsMade (filter_map f xs) y (all_filter_map (Contains xs) IsMade (λ x there. one x there (f x) refl) xs (each_there (Contains xs) xs (λ x there. there)))
    where
      IsMade : B → Type 0
      IsMade y = (x : A) × Contains xs x × (f x ≡ Some y)

      one : (x : A) → Contains xs x → (o : Option B) → f x ≡ o → IfSome o IsMade
      one x there None is = tt
      one x there (Some y) is = (x, there, is)

  pub map_filter_map : {C : Type 0} (g : B → C) (h : A → Option C) (xs : List A) → All (λ x. option_map g (f x) ≡ h x) xs → map g (filter_map f xs) ≡ filter_map h xs
  map_filter_map g h [] same = refl
  map_filter_map {C} g h (x ∷ xs) same = one (f x) (filter_map f xs) ∙ ap₂ cons_option (All-head (λ x. option_map g (f x) ≡ h x) x xs same) (map_filter_map g h xs (All-tail (λ x. option_map g (f x) ≡ h x) x xs same))
    where
      one : (o : Option B) (ys : List B) → map g (cons_option o ys) ≡ cons_option (option_map g o) (map g ys)
      one None ys = refl
      one (Some y) ys = refl

-- where none passes, one that is there does not
pub none_passes : {A : Type 0} (p : A → Bool) (xs : List A) (x : A) → list_any p xs ≡ false → Contains xs x → p x ≡ false
none_passes p xs x none = All-contains (λ y. p y ≡ false) xs x (each xs none)
  where
    neither : (a b : Bool) → (a || b) ≡ false → (a ≡ false) × (b ≡ false)
    neither true b h = absurd cc
    neither false b h = (refl, h)

    each : (ys : List _) → list_any p ys ≡ false → All (λ y. p y ≡ false) ys
    each [] h = All-nil (λ y. p y ≡ false)
    each (y ∷ ys) h = let both = neither (p y) (list_any p ys) h in All-cons (λ y. p y ≡ false) y ys both.0 (each ys both.1)

-- and where each fails, none passes
pub none_of_all : {A : Type 0} (p : A → Bool) (xs : List A) → All (λ x. p x ≡ false) xs → list_any p xs ≡ false
none_of_all p [] all = refl
none_of_all p (x ∷ xs) all = ap₂ ◌||◌ (All-head (λ x. p x ≡ false) x xs all) (none_of_all p xs (All-tail (λ x. p x ≡ false) x xs all))

-- alike of each
pub filter_map_same : {A B : Type 0} (f g : A → Option B) (xs : List A) → All (λ x. f x ≡ g x) xs → filter_map f xs ≡ filter_map g xs
filter_map_same f g [] h = refl
filter_map_same f g (x ∷ xs) h = ap₂ cons_option (All-head (λ x. f x ≡ g x) x xs h) (filter_map_same f g xs (All-tail (λ x. f x ≡ g x) x xs h))

pub flat_map_same : {A B : Type 0} (f g : A → List B) (xs : List A) → All (λ x. f x ≡ g x) xs → flat_map f xs ≡ flat_map g xs
flat_map_same f g [] h = refl
flat_map_same f g (x ∷ xs) h = ap₂ ◌++◌ (All-head (λ x. f x ≡ g x) x xs h) (flat_map_same f g xs (All-tail (λ x. f x ≡ g x) x xs h))

-- what each is given by its place
pub map_by_place : {A B : Type 0} (f : A → Option B) (xs : List A) (ys : List B) → length ys ≡ length xs → ((k : ℕ) (x : A) → slice_get xs k ≡ Some x → f x ≡ slice_get ys k) → map f xs ≡ map (λ y. Some y) ys
map_by_place f [] [] e h = refl
map_by_place f [] (y ∷ ys) e h = absurd (omega arith)
map_by_place f (x ∷ xs) [] e h = absurd (omega arith)
map_by_place f (x ∷ xs) (y ∷ ys) e h = ap₂ ◌∷◌ (h 0 x refl) (map_by_place f xs ys (omega arith) (λ k z is. h (suc k) z is))

-- ---- in which order their keys stand

pub sorted_map : {K L : Type 0} (cmp : K → K → Ordering) (order : L → L → Ordering) (g : K → L) → ((a b : K) → cmp a b ≡ Less → order (g a) (g b) ≡ Less) → (ks : List K) → IsStrictlySortedBy cmp ks → IsStrictlySortedBy order (map g ks)
unfolding IsStrictlySortedBy
sorted_map cmp order g keeps [] h = tt
sorted_map cmp order g keeps (k ∷ ks) h = (
  through (Behind cmp k) (Behind order (g k)) ks (map g ks) (λ all. All-map (Behind order (g k)) g ks (All-weaker (Behind cmp k) (λ y. Behind order (g k) (g y)) (λ y less. keeps k y less) ks all)) h.0,
  sorted_map cmp order g keeps ks h.1,
)

-- rows of which each is made of one, under its key
pub in_order_filter_map : {K X Y : Type 0} (cmp : K → K → Ordering) (f : K × X → Option (K × Y)) → ((e : K × X) → IfSome (f e) (λ y. y.0 ≡ e.0)) → (es : List (K × X)) → InOrder cmp es → InOrder cmp (filter_map f es)
unfolding IsStrictlySortedBy
in_order_filter_map cmp f own [] h = tt
in_order_filter_map {K} {X} {Y} cmp f own (e ∷ es) h = one (f e) (own e) (in_order_filter_map cmp f own es h.1)
  where
    behind : All (Behind cmp e.0) (keys_of es) → All (Behind cmp e.0) (keys_of (filter_map f es))
    behind all =
        All-map (Behind cmp e.0) (λ y. y.0) (filter_map f es)
        (all_filter_map f (λ r. Behind cmp e.0 r.0) (λ y. Behind cmp e.0 y.0) (λ r less. IfSome_then (f r) (own r) (λ y is. subst (Behind cmp e.0) (sym is) less)) es (each_row (Behind cmp e.0) es all))

    one : (o : Option (K × Y)) → IfSome o (λ y. y.0 ≡ e.0) → InOrder cmp (filter_map f es) → InOrder cmp (cons_option o (filter_map f es))
    one None is rest = rest
    one (Some y) is rest = (subst (λ k. AllByRecursion (Behind cmp k) (keys_of (filter_map f es))) (sym is) (through (Behind cmp e.0) (Behind cmp e.0) (keys_of es) (keys_of (filter_map f es)) behind h.0), rest)

pub in_order_append : {K X : Type 0} (cmp : K → K → Ordering) (xs ys : List (K × X)) → InOrder cmp xs → InOrder cmp ys → ((a b : K × X) → Contains xs a → Contains ys b → Behind cmp a.0 b.0) → InOrder cmp (xs ++ ys)
unfolding IsStrictlySortedBy
in_order_append cmp [] ys one other apart = other
in_order_append {K} {X} cmp (x ∷ xs) ys one other apart = (
  recursion_from_All (Behind cmp x.0) (keys_of (xs ++ ys))
      (All-map (Behind cmp x.0) (λ r. r.0) (xs ++ ys)
      (All-append (λ (r : K × X). Behind cmp x.0 r.0) xs ys (each_row (Behind cmp x.0) xs (All-from_recursion (Behind cmp x.0) (keys_of xs) one.0)) (each_there (λ r. Behind cmp x.0 r.0) ys (λ b there. apart x b (0, omega arith, refl) there)))),
  in_order_append cmp xs ys one.1 other (λ a b mine. apart a b (Contains-append_right (x ∷ []) xs a mine)),
)

-- rows of which some are made of each, where their keys tell of which
module _ {K L X Y : Type 0} (cmp : K → K → Ordering) (order : L → L → Ordering) (IsOf : L → K → Type 0) (keeps : (j k : K) (l m : L) → IsOf l j → IsOf m k → cmp j k ≡ Less → order l m ≡ Less) (f : K × X → List (L × Y)) (own : (e : K × X) → All (λ r. IsOf r.0 e.0) (f e)) (each : (e : K × X) → InOrder order (f e)) where
  pub in_order_flat : (es : List (K × X)) → InOrder cmp es → InOrder order (flat_map f es)
  unfolding IsStrictlySortedBy
  in_order_flat [] h = tt
  in_order_flat (e ∷ es) h = in_order_append order (f e) (flat_map f es) (each e) (in_order_flat es h.1) (λ a b one other.
      let d = from_flat f es b other in
      let mine : IsOf a.0 e.0 = All-contains (λ r. IsOf r.0 e.0) (f e) a (own e) one in
      let its : IsOf b.0 d.0.0 = All-contains (λ r. IsOf r.0 d.0.0) (f d.0) b (own d.0) d.2 in
      let less : cmp e.0 d.0.0 ≡ Less = All-contains (λ (r : K × X). Behind cmp e.0 r.0) es d.0 (each_row (Behind cmp e.0) es (All-from_recursion (Behind cmp e.0) (keys_of es) h.0)) d.1 in
      keeps e.0 d.0.0 a.0 b.0 mine its less)

-- ---- rows of one key

-- a key before all others is not among them
absent : {K V : Type 0} (cmp : K → K → Ordering) (k : K) (es : List (K × V)) → AllByRecursion (Behind cmp k) (keys_of es) → at cmp k es ≡ None
absent cmp k [] h = refl
absent cmp k (e ∷ es) h = rw h.0 (absent cmp k es h.1)

-- all pass, or none does
pub filter_alike : {A : Type 0} (passes : A → Bool) (b : Bool) (xs : List A) → All (λ x. passes x ≡ b) xs → filter passes xs ≡ cond b xs []
filter_alike passes true [] h = refl
filter_alike passes false [] h = refl
filter_alike passes true (x ∷ xs) h = rw (All-head (λ x. passes x ≡ true) x xs h) (ap (λ ys. x ∷ ys) (filter_alike passes true xs (All-tail (λ x. passes x ≡ true) x xs h)))
filter_alike passes false (x ∷ xs) h = rw (All-head (λ x. passes x ≡ false) x xs h) (filter_alike passes false xs (All-tail (λ x. passes x ≡ false) x xs h))

-- of rows of which some are made of each, those pass that are made of the row of one key
module _ {K V Y : Type 0} {cmp : K → K → Ordering} (exact : CmpEqualImpliesEq cmp) (f : K × V → List Y) (made : K → Option V → List Y) (none : (k : K) → made k None ≡ []) (some : (e : K × V) → made e.0 (Some e.1) ≡ f e) (passes : Y → Bool) (k : K) (own : (e : K × V) → filter passes (f e) ≡ cond (is_eq (cmp k e.0)) (f e) []) where
  pub filter_flat : (es : List (K × V)) → InOrder cmp es → filter passes (flat_map f es) ≡ made k (at cmp k es)
  unfolding IsStrictlySortedBy
  filter_flat [] h = sym (none k)
  filter_flat (e ∷ es) h = filter-append passes (f e) (flat_map f es) ∙ ap₂ ◌++◌ (own e) (filter_flat es h.1) ∙ by (cmp k e.0) refl
    where
      by : (o : Ordering) → cmp k e.0 ≡ o → cond (is_eq o) (f e) [] ++ made k (at cmp k es) ≡ made k (cond (is_eq o) (Some e.1) (at cmp k es))
      by Less is = refl
      by Greater is = refl
      by Equal is =
          let same : k ≡ e.0 = exact k e.0 is in
          let gone : at cmp k es ≡ None = ap (λ k. at cmp k es) same ∙ absent cmp e.0 es h.0 in
          ap (λ o. f e ++ made k o) gone ∙ ap (λ ys. f e ++ ys) (none k) ∙ append-nil (f e) ∙ sym (some e) ∙ ap (λ k. made k (Some e.1)) (sym same)
