-- How many of a list pass, under two tests or three.
use Rattle.std.proofs.Common.{◌≡◌, ℕ, zero, suc, ◌+◌, ◌<◌, ◌≤◌, Bool, true, false, cond, List, [], ◌∷◌, length, get_or, count_by, map, refl, sym, ap, ◌∙◌, arith}
use Rattle.std.specs.List.{All}
use Rattle.std.proofs.lemmas.List.Sums.{sum_by-cons}
use Rattle.std.proofs.lemmas.List.Elements.{All-head, All-tail}

-- what one element adds
abbrev pub unit : Bool → ℕ
unit b = cond b 1 0

pub count_cons : {X : Type 0} (p : X → Bool) (x : X) (xs : List X) → count_by p (x ∷ xs) ≡ cond (p x) 1 0 + count_by p xs
count_cons p x xs = sum_by-cons (λ y. cond (p y) 1 0) x xs

unit_le : (a b : Bool) → (a ≡ true → b ≡ true) → cond a 1 0 ≤ cond b 1 0
unit_le true b h = rw (h refl) (omega arith)
unit_le false b h = omega arith

unit_lt : (a b : Bool) → a ≡ false → b ≡ true → cond a 1 0 < cond b 1 0
unit_lt a b e f = rw (e, f) (omega arith)

-- what passes p passes q
pub count_le : {X : Type 0} (p q : X → Bool) (xs : List X) → All (λ x. p x ≡ true → q x ≡ true) xs → count_by p xs ≤ count_by q xs
count_le p q [] h = omega arith
count_le p q (x ∷ xs) h =
    omega (arith, count_cons p x xs, count_cons q x xs, unit_le (p x) (q x) (All-head (λ y. p y ≡ true → q y ≡ true) x xs h), count_le p q xs (All-tail (λ y. p y ≡ true → q y ≡ true) x xs h))

-- and the element at i passes q alone
pub count_lt : {X : Type 0} (p q : X → Bool) (xs : List X) (i : ℕ) (d : X) → i < length xs → All (λ x. p x ≡ true → q x ≡ true) xs → p (get_or xs i d) ≡ false → q (get_or xs i d) ≡ true → count_by p xs < count_by q xs
count_lt p q [] i d l h e f = absurd (omega arith)
count_lt p q (x ∷ xs) zero d l h e f =
    omega (arith, count_cons p x xs, count_cons q x xs, unit_lt (p x) (q x) e f, count_le p q xs (All-tail (λ y. p y ≡ true → q y ≡ true) x xs h))
count_lt p q (x ∷ xs) (suc i) d l h e f =
    omega (arith, count_cons p x xs, count_cons q x xs, unit_le (p x) (q x) (All-head (λ y. p y ≡ true → q y ≡ true) x xs h), count_lt p q xs i d (omega arith) (All-tail (λ y. p y ≡ true → q y ≡ true) x xs h) e f)

-- two tests that agree on a list
pub count_same : {X : Type 0} (p q : X → Bool) (xs : List X) → All (λ x. p x ≡ q x) xs → count_by p xs ≡ count_by q xs
count_same p q xs h = omega (arith, count_le p q xs (λ k d l t. sym (h k d l) ∙ t), count_le q p xs (λ k d l t. h k d l ∙ t))

pub count_all : {X : Type 0} (p : X → Bool) (xs : List X) → All (λ x. p x ≡ true) xs → count_by p xs ≡ length xs
count_all p [] h = refl
count_all p (x ∷ xs) h =
    let e = All-head (λ y. p y ≡ true) x xs h in
    let r = count_all p xs (All-tail (λ y. p y ≡ true) x xs h) in
    omega (arith, count_cons p x xs, ap unit e, r)

pub count_none : {X : Type 0} (p : X → Bool) (xs : List X) → All (λ x. p x ≡ false) xs → count_by p xs ≡ 0
count_none p [] h = refl
count_none p (x ∷ xs) h =
    let e = All-head (λ y. p y ≡ false) x xs h in
    let r = count_none p xs (All-tail (λ y. p y ≡ false) x xs h) in
    omega (arith, count_cons p x xs, ap unit e, r)

-- an element passes either one of two tests or none
pub count_either : {X : Type 0} (p q r : X → Bool) → ((x : X) → cond (p x) 1 0 + cond (q x) 1 0 ≡ cond (r x) 1 0) → (xs : List X) → count_by p xs + count_by q xs ≡ count_by r xs
count_either p q r h [] = refl
count_either p q r h (x ∷ xs) = omega (arith, count_cons p x xs, count_cons q x xs, count_cons r x xs, h x, count_either p q r h xs)

pub count_map : {X Y : Type 0} (p : Y → Bool) (f : X → Y) (xs : List X) → count_by p (map f xs) ≡ count_by (λ x. p (f x)) xs
count_map p f [] = refl
count_map p f (x ∷ xs) = omega (arith, count_cons p (f x) (map f xs), count_cons (λ y. p (f y)) x xs, count_map p f xs)
