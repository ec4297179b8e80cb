-- Fields as they are written, and as they are read.
use Rattle.std.proofs.Common.{◌≡◌, ℕ, ◌+◌, ◌<◌, List, [], ◌∷◌, ◌++◌, length, map, reverse, Bool, true, false, ◌&&◌, refl, ap, ◌∙◌, arith, IsTrue, nat_lt, append_assoc, length-append}
use Rattle.std.specs.List.{flat_map, list_all, AllByRecursion}
use Rattle.std.proofs.lemmas.Bool.Decides.{nat_tests}
use Rattle.std.proofs.lemmas.List.Elements.{All-from_recursion, recursion_from_All}
use Rattle.httparse.specs.Grammar.{Field, crlf, print_field, AllPass, is_token, is_token_byte, is_value_byte, is_uri_byte, is_ows, skip_ows, trim_ows, IsField}
use Rattle.httparse.proofs.TrimLemmas.{trim_ows_space, AllPass-reverse}
use Rattle.adr_wire.specs.Written.{line}

both : (a b : Bool) → (a && b) ≡ true → (a ≡ true) × (b ≡ true)
both true b e = (refl, e)
both false b e = absurd cc

pub pass_all : (test : ℕ → Bool) (xs : List ℕ) → list_all test xs ≡ true → AllByRecursion (λ b. IsTrue (test b)) xs
pass_all test [] e = tt
pass_all test (x ∷ xs) e = let h = both (test x) (list_all test xs) e in (h.0, pass_all test xs h.1)

pub pass : (test : ℕ → Bool) (xs : List ℕ) → list_all test xs ≡ true → AllPass test xs
pass test xs e = All-from_recursion (λ b. IsTrue (test b)) xs (pass_all test xs e)

-- what passes a test that white space fails begins and ends with none
pub no_white : (ds : List ℕ) → AllByRecursion (λ b. IsTrue (is_uri_byte b)) ds → skip_ows ds ≡ ds
no_white [] h = refl
no_white (c ∷ ds) h =
    let d : is_uri_byte c ≡ true = h.0 in
    let e : is_ows c ≡ false = grind (arith, nat_tests) in
    rw e refl

-- a value of visible bytes, behind a space
pub trimmed : (ds : List ℕ) → AllPass is_uri_byte ds → trim_ows (32 ∷ ds) ≡ ds
trimmed ds all =
    trim_ows_space ds (no_white ds (recursion_from_All (λ b. IsTrue (is_uri_byte b)) ds all))
    (no_white (reverse ds) (recursion_from_All (λ b. IsTrue (is_uri_byte b)) (reverse ds) (AllPass-reverse is_uri_byte ds all)))

-- a field, by its name and its value
abbrev pub field_of : List ℕ × List ℕ → Field
field_of f = record { name = f.0; raw = 32 ∷ f.1; end = crlf }

abbrev pub good_field : List ℕ × List ℕ → Bool
good_field f = is_token f.0 && list_all is_value_byte f.1

some_byte : (xs : List ℕ) → nat_lt 0 (length xs) ≡ true → 0 < length xs
some_byte xs e = grind (arith, nat_tests)

is_field : (f : List ℕ × List ℕ) → good_field f ≡ true → IsField (field_of f)
is_field f e =
    let h = both (is_token f.0) (list_all is_value_byte f.1) e in
    let t = both (nat_lt 0 (length f.0)) (list_all is_token_byte f.0) h.0 in
    record { name = (some_byte f.0 t.0, pass is_token_byte f.0 t.1); raw = pass is_value_byte (32 ∷ f.1) h.1 }

pub are_fields : (fs : List (List ℕ × List ℕ)) → list_all good_field fs ≡ true → AllByRecursion IsField (map field_of fs)
are_fields [] e = tt
are_fields (f ∷ fs) e = let h = both (good_field f) (list_all good_field fs) e in (is_field f h.0, are_fields fs h.1)

field_line : (f : List ℕ × List ℕ) → print_field (field_of f) ≡ line f
field_line f = append_assoc f.0 (58 ∷ 32 ∷ f.1) (13 ∷ 10 ∷ [])

pub lines_are : (fs : List (List ℕ × List ℕ)) → flat_map print_field (map field_of fs) ≡ flat_map line fs
lines_are [] = refl
lines_are (f ∷ fs) = ap (λ z. z ++ flat_map print_field (map field_of fs)) (field_line f) ∙ ap (λ z. line f ++ z) (lines_are fs)

pub line_length : (name value : List ℕ) → length (line (name, value)) ≡ length name + length value + 4
line_length name value =
    let a = length-append name (58 ∷ 32 ∷ (value ++ 13 ∷ 10 ∷ [])) in
    let b = length-append value (13 ∷ 10 ∷ []) in
    omega (arith, a, b)
