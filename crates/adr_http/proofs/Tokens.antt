-- Two tokens, byte by byte: what differs is gathered.
use Rattle.std.proofs.Common.{◌≡◌, ℕ, suc, true, false, ◌+◌, ◌<◌, ◌≤◌, List, ◌∷◌, length, drop, get_or, refl, sym, ap, ◌∙◌, subst, arith}
use Rattle.std.specs.Prelude.{◌==◌, ◌≢◌, ◌&&◌, bytes_eq, bit_or, bit_xor}
use Rattle.std.specs.Int.Bits.{xor_self, xor_add_and, or_zero_r}
use Rattle.std.proofs.lemmas.Nat.{and_le_l, and_le_r, le_or_r}
use Rattle.std.proofs.Math.Seq.{drop-cons}
use Rattle.std.proofs.Math.ListN.{drop_of_length-le}
use Rattle.std.proofs.lemmas.Bool.{ne_eqb}

-- bytes of which no bit differs are the same
no_bit : (a b : ℕ) → bit_xor a b ≡ 0 → a ≡ b
no_bit a b none = omega (arith, none, xor_add_and a b, and_le_l a b, and_le_r a b)

-- what was gathered so far is still 0 where the next two are the same
gathered : (d a b : ℕ) → (bit_or d (bit_xor a b) == 0) ≡ ((d == 0) && (a == b))
gathered d a b =
    elim (a == b) as (λ x. a == b ≡ x → (bit_or d (bit_xor a b) == 0) ≡ ((d == 0) && x)) [
      | true ↦ λ e. let is : a ≡ b = grind arith in let none : bit_or d (bit_xor a b) ≡ d = ap (λ c. bit_or d (bit_xor a c)) (sym is) ∙ ap (bit_or d) (xor_self a) ∙ or_zero_r d in grind (arith, none)
      | false ↦ λ e. let isnt : a ≢ b = grind arith in
          let some : bit_or d (bit_xor a b) ≢ 0 = (λ none. isnt (no_bit a b (omega (arith, none, le_or_r d (bit_xor a b))))) in
          grind (arith, ne_eqb (bit_or d (bit_xor a b)) 0 some)
    ] refl

one_more : (d a b : ℕ) (xs ys : List ℕ) → ((bit_or d (bit_xor a b) == 0) && bytes_eq xs ys) ≡ ((d == 0) && bytes_eq (a ∷ xs) (b ∷ ys))
one_more d a b xs ys = grind (arith, gathered d a b)

left : (xs : List ℕ) (i : ℕ) → i < length xs → drop i xs ≡ get_or xs i 0 ∷ drop (i + 1) xs
left xs i some = let next : suc i ≡ i + 1 = omega arith in subst (λ j. drop i xs ≡ get_or xs i 0 ∷ drop j xs) next (drop-cons xs i 0 some)

-- a byte more is looked at
pub goes_on : (xs ys : List ℕ) (i d : ℕ) → i < length xs → i < length ys
    → ((bit_or d (bit_xor (get_or xs i 0) (get_or ys i 0)) == 0) && bytes_eq (drop (i + 1) xs) (drop (i + 1) ys)) ≡ ((d == 0) && bytes_eq (drop i xs) (drop i ys))
goes_on xs ys i d some more = rw (left xs i some) (rw (left ys i more) (one_more d (get_or xs i 0) (get_or ys i 0) (drop (i + 1) xs) (drop (i + 1) ys)))

-- all bytes were looked at
pub all_seen : (xs ys : List ℕ) (n d : ℕ) → length xs ≤ n → length ys ≤ n → ((d == 0) && bytes_eq (drop n xs) (drop n ys)) ≡ (d == 0)
all_seen xs ys n d none no_more = rw (drop_of_length-le xs none) (rw (drop_of_length-le ys no_more) (grind arith))
