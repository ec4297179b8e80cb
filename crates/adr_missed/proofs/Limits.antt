-- How many are wanted.
use Rattle.std.proofs.Common.{◌≡◌, ℕ, ◌+◌, true, false, List, [], ◌∷◌, ◌++◌, length, map, take, Option, None, Some, refl, sym, ap, ◌∙◌, arith}
use Rattle.std.proofs.lemmas.Bool.{leb-true, leb-false}
use Rattle.std.proofs.lemmas.List.{take-map, take_at, take_all}
use Rattle.adr_db.proofs.Common.{AllZip}
use Rattle.adr_db.specs.Kept.{at_most}
use Rattle.adr_missed.specs.Taken.{IsAtMost, is_enough}

pub enough_is : (limit : Option ℕ) (n : ℕ) → IsAtMost limit n → is_enough limit n ≡ true → limit ≡ Some n
enough_is None n most enough = absurd cc
enough_is (Some limit) n most enough = let same : limit ≡ n = omega (arith, leb-true limit n enough) in ap (λ k. Some k) same

pub one_more : (limit : Option ℕ) (n m : ℕ) → is_enough limit n ≡ false → m ≡ n + 1 → IsAtMost limit m
one_more None n m few is = tt
one_more (Some limit) n m few is = omega (arith, leb-false limit n few)

pub zip_length : {X Y : Type 0} (R : X → Y → Type 0) (xs : List X) (ys : List Y) → AllZip R xs ys → length xs ≡ length ys
zip_length R [] [] h = refl
zip_length R [] (y ∷ ys) h = absurd h
zip_length R (x ∷ xs) [] h = absurd h
zip_length R (x ∷ xs) (y ∷ ys) h = omega (arith, zip_length R xs ys h.1)

-- all of them, and not too many
pub all_taken : {X : Type 0} (limit : Option ℕ) (xs all : List X) → xs ≡ all → IsAtMost limit (length xs) → xs ≡ at_most limit all
all_taken None xs all is most = is
all_taken (Some limit) xs all is most = sym (take_all limit xs most) ∙ ap (take limit) is

-- the first of them, as many as are wanted
pub first_taken : {X : Type 0} (limit : Option ℕ) (xs rest all : List X) → xs ++ rest ≡ all → limit ≡ Some (length xs) → xs ≡ at_most limit all
first_taken None xs rest all is full = absurd cc
first_taken (Some limit) xs rest all is full = let count : length xs ≡ limit = cc in sym (take_at xs rest limit count) ∙ ap (take limit) is

-- the first of what is made of each is what is made of the first
pub at_most-map : {X Y : Type 0} (f : X → Y) (limit : Option ℕ) (xs : List X) → at_most limit (map f xs) ≡ map f (at_most limit xs)
at_most-map f None xs = refl
at_most-map f (Some limit) xs = take-map f limit xs
