-- Sums and maps over a list and over its elements with their places.
use Rattle.std.proofs.Common.{◌≡◌, ℕ, ◌+◌, Bool, List, [], ◌∷◌, count_by, sum_by, map, refl, arith}
use Rattle.std.specs.List.{All, enumerate_from}
use Rattle.std.proofs.lemmas.List.Sums.{sum_by-cons}
use Rattle.std.proofs.lemmas.List.Elements.{All-head, All-tail}
use Rattle.adr_split.proofs.Counts.{unit, count_cons}

pub sum_same : {X : Type 0} (f g : X → ℕ) (xs : List X) → All (λ x. f x ≡ g x) xs → sum_by f xs ≡ sum_by g xs
sum_same f g [] h = refl
sum_same f g (x ∷ xs) h =
    omega (arith, sum_by-cons f x xs, sum_by-cons g x xs, All-head (λ y. f y ≡ g y) x xs h, sum_same f g xs (All-tail (λ y. f y ≡ g y) x xs h))

pub map_same : {X Y : Type 0} (f g : X → Y) (xs : List X) → All (λ x. f x ≡ g x) xs → map f xs ≡ map g xs
map_same f g [] h = refl
map_same f g (x ∷ xs) h =
    let e = All-head (λ y. f y ≡ g y) x xs h in
    let r = map_same f g xs (All-tail (λ y. f y ≡ g y) x xs h) in
    cc

-- one more for each that passes
pub sum_with_count : {X : Type 0} (f : X → ℕ) (p : X → Bool) (xs : List X) → sum_by (λ x. f x + unit (p x)) xs ≡ sum_by f xs + count_by p xs
sum_with_count f p [] = refl
sum_with_count f p (x ∷ xs) =
    omega (arith, sum_by-cons (λ y. f y + unit (p y)) x xs, sum_by-cons f x xs, count_cons p x xs, sum_with_count f p xs)

pub sum_placed : {X : Type 0} (f : X → ℕ) (n : ℕ) (xs : List X) → sum_by (λ (e : ℕ × X). f e.1) (enumerate_from n xs) ≡ sum_by f xs
sum_placed f n [] = refl
sum_placed f n (x ∷ xs) = omega (arith, sum_by-cons (λ (e : ℕ × _). f e.1) (n, x) (enumerate_from (n + 1) xs), sum_by-cons f x xs, sum_placed f (n + 1) xs)
