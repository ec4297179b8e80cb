-- What is made of the elements that pass a test, as it is gathered from answers one after another.
use Rattle.std.proofs.Common.{◌≡◌, ◌⊎◌, inl, inr, Bool, true, false, ◌||◌, ◌&&◌, cond, List, [], ◌∷◌, ◌++◌, map, filter, Option, Some, refl, sym, ap, ◌∙◌}
use Rattle.std.proofs.lemmas.List.Folds.{list_any-append, list_any_at}
use Rattle.adr_refresh.proofs.Common.{Contains, Contains-append_left, Contains-append_right, filter_map, in_filter_map, list_any}
use Rattle.adr_view.proofs.ListLemmas.{from_filter_map}

-- where one that is there passes
pub any_there : {A : Type 0} (p : A → Bool) (xs : List A) (x : A) → Contains xs x → p x ≡ true → list_any p xs ≡ true
any_there p xs x there is = list_any_at p xs there.0 x there.1 (ap p there.2 ∙ is)

-- whether one of those passes that pass another test
pub any_passing : {A B : Type 0} (p : B → Bool) (passes : A → Bool) (f : A → B) (xs : List A) → list_any p (map f (filter passes xs)) ≡ list_any (λ x. passes x && p (f x)) xs
any_passing p passes f [] = refl
any_passing p passes f (x ∷ xs) = by (passes x) (any_passing p passes f xs)
  where
    by : (b : Bool) → list_any p (map f (filter passes xs)) ≡ list_any (λ x. passes x && p (f x)) xs → list_any p (map f (cond b (x ∷ filter passes xs) (filter passes xs))) ≡ ((b && p (f x)) || list_any (λ x. passes x && p (f x)) xs)
    by true same = ap (λ c. p (f x) || c) same
    by false same = same

-- what is made of an element hangs on the test of one thing that it says
pub record HangsOn {T E B : Type 0} (f : (T → Bool) → E → Option B) (p : T → Bool) (e : E) (y : B) : Type 0 where
  pub said : T
  pub passed : p said ≡ true
  pub made : (q : T → Bool) → q said ≡ true → f q e ≡ Some y

module _ {T E B : Type 0} (f : (T → Bool) → E → Option B) (hangs : (p : T → Bool) (e : E) (y : B) → f p e ≡ Some y → HangsOn f p e y) (es : List E) where
  -- what passes one test passes another
  pub weaker : (p q : T → Bool) → ((t : T) → p t ≡ true → q t ≡ true) → (y : B) → Contains (filter_map (f p) es) y → Contains (filter_map (f q) es) y
  weaker p q then y there =
      let from = from_filter_map (f p) es y there in
      let by = hangs p from.0 y from.2 in
      in_filter_map (f q) es from.0 y (by.made q (then by.said by.passed)) from.1

  -- or one of two
  either : (p a b : T → Bool) → ((t : T) → p t ≡ true → (a t ≡ true) ⊎ (b t ≡ true)) → (y : B) → Contains (filter_map (f p) es) y → Contains (filter_map (f a) es) y ⊎ Contains (filter_map (f b) es) y
  either p a b then y there =
      let from = from_filter_map (f p) es y there in
      let by = hangs p from.0 y from.2 in
      elim (then by.said by.passed) [
        | inl is ↦ inl (in_filter_map (f a) es from.0 y (by.made a is) from.1)
        | inr is ↦ inr (in_filter_map (f b) es from.0 y (by.made b is) from.1)
      ]

  module _ {A X : Type 0} (g : B → A) (passes : X → T → Bool) where
    -- whether one of these lets it pass
    abbrev pub by_one : List X → T → Bool
    by_one xs t = list_any (λ x. passes x t) xs

    -- among these is each that is made by a test
    abbrev pub HasMade : List A → (T → Bool) → Type 0
    HasMade all p = (y : B) → Contains (filter_map (f p) es) y → Contains all (g y)

    pub none_made : (all : List A) → HasMade all (by_one [])
    none_made all y there = let from = from_filter_map (f (by_one [])) es y there in let by = hangs (by_one []) from.0 y from.2 in absurd (let no : false ≡ true = by.passed in cc)

    pub more_made : (xs : List X) (x : X) (all more : List A) → HasMade all (by_one xs) → HasMade more (passes x) → HasMade (all ++ more) (by_one (xs ++ x ∷ []))
    more_made xs x all more before here y there =
        elim (either (by_one (xs ++ x ∷ [])) (by_one xs) (passes x) which y there) [
          | inl old ↦ Contains-append_left all more (g y) (before y old)
          | inr new ↦ Contains-append_right all more (g y) (here y new)
        ]
      where
        one : (a b : Bool) → (a || (b || false)) ≡ true → (a ≡ true) ⊎ (b ≡ true)
        one true b h = inl refl
        one false true h = inr refl
        one false false h = absurd cc

        which : (t : T) → by_one (xs ++ x ∷ []) t ≡ true → (by_one xs t ≡ true) ⊎ (passes x t ≡ true)
        which t is = one (by_one xs t) (passes x t) (sym (list_any-append (λ x. passes x t) xs (x ∷ [])) ∙ is)
