-- Lists of which something is made of some elements, and of others nothing.
use Rattle.std.proofs.Common.{◌≡◌, ℕ, Bool, true, false, cond, List, [], ◌∷◌, map, filter, Option, Some, None, Ordering, Less, Equal, Greater, refl, sym, ap, ap₂, ◌∙◌, arith}
use Rattle.std.specs.Prelude.{is_some}
pub use Rattle.adr_view.proofs.ListLemmas.{filter_map_same, none_of_all, none_passes}
use Rattle.adr_refresh.proofs.Common.{All, All-head, All-tail, Contains, Contains-append_right, at, cons_option, exact_unsigned, filter_map, insert_entry, list_any, lookup, match_ordering, nat_cmp, remove_entry}

pub false_unless : (b : Bool) → (b ≡ true → ⊥) → b ≡ false
false_unless true h = absurd (h refl)
false_unless false h = refl

-- ---- which are there

pub behind_first : {A : Type 0} (x : A) (xs : List A) (y : A) → Contains xs y → Contains (x ∷ xs) y
behind_first x xs y there = Contains-append_right (x ∷ []) xs y there

pub the_first : {A : Type 0} (x : A) (xs : List A) → Contains (x ∷ xs) x
the_first x xs = (0, omega arith, refl)

-- one that is there and passes is one that passes
pub one_passes : {A : Type 0} (p : A → Bool) (xs : List A) (x : A) → Contains xs x → p x ≡ true → list_any p xs ≡ true
one_passes p xs x there passed = by (list_any p xs) refl
  where
    by : (b : Bool) → list_any p xs ≡ b → b ≡ true
    by true is = refl
    by false none = sym (none_passes p xs x none there) ∙ passed

-- what is not there is nothing
pub is_none_from : {A : Type 0} (o : Option A) → is_some o ≡ false → o ≡ None
is_none_from None is = refl
is_none_from (Some x) is = absurd cc

module _ {A B : Type 0} where
  -- those that do not pass make nothing
  pub record MakesOfPassing (p : A → Bool) (f g : A → Option B) (x : A) : Type 0 where
    pub passes : p x ≡ true → f x ≡ g x
    pub fails : p x ≡ false → g x ≡ None

  pub filter_map_passing : (p : A → Bool) (f g : A → Option B) (xs : List A) → All (MakesOfPassing p f g) xs → filter_map f (filter p xs) ≡ filter_map g xs
  filter_map_passing p f g [] h = refl
  filter_map_passing p f g (x ∷ xs) h = by (p x) refl (All-head (MakesOfPassing p f g) x xs h) (filter_map_passing p f g xs (All-tail (MakesOfPassing p f g) x xs h))
    where
      by : (b : Bool) → p x ≡ b → MakesOfPassing p f g x → filter_map f (filter p xs) ≡ filter_map g xs → filter_map f (cond b (x ∷ filter p xs) (filter p xs)) ≡ cons_option (g x) (filter_map g xs)
      by true is one rest = ap₂ cons_option (one.passes is) rest
      by false is one rest = rest ∙ ap (λ (o : Option B). cons_option o (filter_map g xs)) (sym (one.fails is))

-- ---- one row put, or gone, of which nothing is made

module _ {V B : Type 0} (f : ℕ × V → Option B) where
  pub filter_map_put : (n : ℕ) (v : V) (es : List (ℕ × V)) → f (n, v) ≡ None → ((old : V) → at nat_cmp n es ≡ Some old → f (n, old) ≡ None) → filter_map f (insert_entry nat_cmp es n v) ≡ filter_map f es
  filter_map_put n v [] new old = ap (λ (o : Option B). cons_option o []) new
  filter_map_put n v (e ∷ es) new old = by (nat_cmp n e.0) refl (filter_map_put n v es new)
    where
      by : (o : Ordering) → nat_cmp n e.0 ≡ o → (((w : V) → at nat_cmp n es ≡ Some w → f (n, w) ≡ None) → filter_map f (insert_entry nat_cmp es n v) ≡ filter_map f es)
          → filter_map f (match_ordering o ((n, v) ∷ e ∷ es) ((e.0, v) ∷ es) (e ∷ insert_entry nat_cmp es n v)) ≡ filter_map f (e ∷ es)
      by Less is rest = ap (λ (o : Option B). cons_option o (filter_map f (e ∷ es))) new
      by Equal is rest =
          let same : n ≡ e.0 = exact_unsigned n e.0 is in
          let one : f (e.0, v) ≡ None = ap (λ (k : ℕ). f (k, v)) (sym same) ∙ new in
          let two : f (e.0, e.1) ≡ None = ap (λ (k : ℕ). f (k, e.1)) (sym same) ∙ old e.1 (rw is refl) in
          ap (λ (o : Option B). cons_option o (filter_map f es)) (one ∙ sym two)
      by Greater is rest = ap (cons_option (f e)) (rest (λ w found. old w (rw is found)))

module _ {K V B : Type 0} (f : K × V → Option B) where
  pub filter_map_removed : (goes : K → Bool) (es : List (K × V)) → ((k : K) (v : V) → goes k ≡ true → lookup goes es ≡ Some v → f (k, v) ≡ None) → filter_map f (remove_entry goes es) ≡ filter_map f es
  filter_map_removed goes [] nothing = refl
  filter_map_removed goes (e ∷ es) nothing = by (goes e.0) refl (filter_map_removed goes es)
    where
      by : (b : Bool) → goes e.0 ≡ b → (((k : K) (v : V) → goes k ≡ true → lookup goes es ≡ Some v → f (k, v) ≡ None) → filter_map f (remove_entry goes es) ≡ filter_map f es)
          → filter_map f (cond b es (e ∷ remove_entry goes es)) ≡ filter_map f (e ∷ es)
      by true is rest = ap (λ (o : Option B). cons_option o (filter_map f es)) (sym (nothing e.0 e.1 is (rw is refl)))
      by false is rest = ap (cons_option (f e)) (rest (λ k v goes_too found. nothing k v goes_too (rw is found)))

-- where all of a key pass, it keeps what it has
pub lookup-passing : {K V : Type 0} (test : K → Bool) (passes : K × V → Bool) (es : List (K × V)) → All (λ e. test e.0 ≡ true → passes e ≡ true) es → lookup test (filter passes es) ≡ lookup test es
lookup-passing test passes [] all = refl
lookup-passing {K} {V} test passes (e ∷ es) all =
    by (test e.0) (passes e) refl (All-head (λ e. test e.0 ≡ true → passes e ≡ true) e es all) (lookup-passing test passes es (All-tail (λ e. test e.0 ≡ true → passes e ≡ true) e es all))
  where
    by : (b c : Bool) → test e.0 ≡ b → (b ≡ true → c ≡ true) → lookup test (filter passes es) ≡ lookup test es → lookup test (cond c (e ∷ filter passes es) (filter passes es)) ≡ cond b (Some e.1) (lookup test es)
    by true true is all rest = rw is refl
    by true false is all rest = absurd (let no : false ≡ true = all refl in cc)
    by false true is all rest = rw is rest
    by false false is all rest = rest

-- alike of each
pub map_same : {A B : Type 0} (f g : A → B) (xs : List A) → All (λ x. f x ≡ g x) xs → map f xs ≡ map g xs
map_same f g [] h = refl
map_same f g (x ∷ xs) h = ap₂ ◌∷◌ (All-head (λ x. f x ≡ g x) x xs h) (map_same f g xs (All-tail (λ x. f x ≡ g x) x xs h))

-- a filter as a filter_map
pub filter_is : {A : Type 0} (p : A → Bool) (xs : List A) → filter p xs ≡ filter_map (λ x. cond (p x) (Some x) None) xs
filter_is p [] = refl
filter_is p (x ∷ xs) = ap (λ ys. cond (p x) (x ∷ ys) ys) (filter_is p xs) ∙ by (p x) (filter_map (λ x. cond (p x) (Some x) None) xs)
  where
    by : (b : Bool) (ys : List _) → cond b (x ∷ ys) ys ≡ cons_option (cond b (Some x) None) ys
    by true ys = refl
    by false ys = refl

-- another key keeps what it has
pub lookup-removed_other : {K V : Type 0} (goes test : K → Bool) (es : List (K × V)) → ((k : K) → goes k ≡ true → test k ≡ false) → lookup test (remove_entry goes es) ≡ lookup test es
lookup-removed_other goes test [] other = refl
lookup-removed_other {K} {V} goes test (e ∷ es) other = by (goes e.0) refl (lookup-removed_other goes test es other)
  where
    by : (b : Bool) → goes e.0 ≡ b → lookup test (remove_entry goes es) ≡ lookup test es → lookup test (cond b es (e ∷ remove_entry goes es)) ≡ lookup test (e ∷ es)
    by true is rest = let not_it : test e.0 ≡ false = other e.0 is in rw not_it refl
    by false is rest = ap (cond (test e.0) (Some e.1)) rest
