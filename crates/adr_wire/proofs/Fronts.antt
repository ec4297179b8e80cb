-- What stands at the front of bytes.
use Rattle.std.proofs.Common.{◌≡◌, ℕ, ◌≤◌, List, [], ◌∷◌, ◌++◌, length, map, take, refl, sym, ◌∙◌, ap, arith, length-take}
use Rattle.std.proofs.lemmas.List.{length-map}
use Rattle.httparse.specs.Grammar.{Field}
use Rattle.httparse.specs.Spans.{AreFieldsAt, header_bytes, name_and_value}
use Rattle.httparse.specs.declared.spans.HeaderSpan.{HeaderSpan}

-- a shorter front of the same bytes is a front of the longer one
pub front_of : (p a x y : List ℕ) → a ++ x ≡ p ++ y → length p ≤ length a → (m : List ℕ) × (a ≡ p ++ m)
front_of [] a x y e small = (a, refl)
front_of (b ∷ p) [] x y e small = absurd (omega arith)
front_of (b ∷ p) (c ∷ a) x y e small =
    let tail : a ++ x ≡ p ++ y = cc in
    let shorter : length p ≤ length a = omega arith in
    let rest = front_of p a x y tail shorter in
    (rest.0, cc (rest.1))

same_length : {X Y Z : Type 0} (f : X → Z) (g : Y → Z) (xs : List X) (ys : List Y) → map f xs ≡ map g ys → length xs ≡ length ys
same_length f g xs ys e = sym (length-map xs f) ∙ ap length e ∙ length-map ys g

-- there are no more fields than there is room for
pub few_fields : (bytes : List ℕ) (headers : List HeaderSpan) (count : ℕ) (fields : List Field) → length headers ≡ 64
    → AreFieldsAt bytes headers count fields → length fields ≤ 64
few_fields bytes headers count fields room are =
    let same = same_length (header_bytes bytes) name_and_value (take count headers) fields are in
    let taken = length-take count headers in
    omega (arith, same, taken)
