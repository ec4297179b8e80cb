-- Numbers as they are written.
use Rattle.std.proofs.Common.{◌≡◌, ℕ, ◌^◌, ◌<◌, ◌≤◌, List, [], ◌∷◌, length, true, refl, arith, Ok, decimal, nat_lt, nat_le}
use Rattle.std.specs.List.{list_all}
use Rattle.std.specs.Char.{is_ascii_digit}
use Rattle.std.specs.Str.Parse.{AllDigits}
use Rattle.std.proofs.lemmas.Bool.Decides.{nat_tests}
use Rattle.std.proofs.lemmas.Fmt.{decimal_is_IsNumeral}
use Rattle.std.proofs.lemmas.Str.Parse.{digit_from_value}
use Rattle.std.proofs.lemmas.List.{take_all}
use Rattle.httparse.specs.Grammar.{is_value_byte, is_uri_byte}
use Rattle.adr_wire.specs.declared.extent.Extent.TheVariants.{Length}
use Rattle.adr_wire.specs.Lengths.{body_of_length}
use Rattle.adr_wire.specs.Extents.{length_in}

pub digits_are : (ds : List ℕ) → AllDigits 10 ds → list_all is_ascii_digit ds ≡ true
digits_are [] d = refl
digits_are (c ∷ ds) d =
    let b = digit_from_value c d.0 in
    let e : is_ascii_digit c ≡ true = grind (arith, nat_tests) in
    rw e (digits_are ds d.1)

pub values_are : (ds : List ℕ) → AllDigits 10 ds → list_all is_value_byte ds ≡ true
values_are [] d = refl
values_are (c ∷ ds) d =
    let b = digit_from_value c d.0 in
    let e : is_value_byte c ≡ true = grind (arith, nat_tests) in
    rw e (values_are ds d.1)

pub visible_are : (ds : List ℕ) → AllDigits 10 ds → list_all is_uri_byte ds ≡ true
visible_are [] d = refl
visible_are (c ∷ ds) d =
    let b = digit_from_value c d.0 in
    let e : is_uri_byte c ≡ true = grind (arith, nat_tests) in
    rw e (visible_are ds d.1)

-- a length, up to the limit
pub number_is : (limit n : ℕ) → n < 2 ^ 64 → n ≤ limit → length_in limit (decimal n) ≡ Ok (Length n)
number_is limit n small few =
    let d = decimal_is_IsNumeral n small in
    let some : nat_lt 0 (length (decimal n)) ≡ true = let l = d.0.0 in grind (arith, nat_tests) in
    let fits : nat_le n limit ≡ true = grind (arith, nat_tests) in
    rw (some, digits_are (decimal n) d.0.1, d.1, fits) refl

-- a body of its own length
pub whole_body : (body : List ℕ) → Ok body ≡ body_of_length (length body) body
whole_body body =
    let fits : nat_le (length body) (length body) ≡ true = grind (arith, nat_tests) in
    rw (fits, take_all (length body) body (omega arith)) refl
