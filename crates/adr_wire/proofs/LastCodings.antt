-- Codings, the last one first.
use Rattle.std.proofs.Common.{◌≡◌, ℕ, ◌+◌, ◌<◌, List, [], ◌∷◌, ◌++◌, length, map, reverse, refl, sym, ap, ◌∙◌, arith, true, false}
use Rattle.std.proofs.lemmas.List.{map_push, reverse-append, length-reverse, length-map}
use Rattle.std.specs.Borrow.{Bor}
use Rattle.adr_wire.specs.Codings.{is_chunked}
use Rattle.adr_wire.specs.Extents.{alone, last_first, coding_in}
use Rattle.adr_wire.specs.declared.end.MessageFault.TheVariants.{Malformed, NoCoding}
use Rattle.adr_wire.specs.declared.extent.Extent.TheVariants.{Chunked}
use Rattle.std.proofs.Common.{Ok, Err}

pub last_is : (codings others : List (Bor (List ℕ))) (last : Bor (List ℕ)) → codings ≡ others ++ last ∷ []
    → coding_in (map (λ s. s.now) codings) ≡ last_first (last.now ∷ reverse (map (λ s. s.now) others))
last_is codings others last is =
    ap (λ z. last_first (reverse (map (λ s. s.now) z))) is ∙ ap (λ z. last_first (reverse z)) (map_push (λ s. s.now) others last)
    ∙ ap last_first (reverse-append (map (λ s. s.now) others) (last.now ∷ []))

some_back : (xs : List (List ℕ)) → 0 < length xs → alone xs ≡ Err NoCoding
some_back [] some = absurd (omega arith)
some_back (x ∷ xs) some = refl

pub several : (codings others : List (Bor (List ℕ))) (last : Bor (List ℕ)) → codings ≡ others ++ last ∷ [] → is_chunked last.now ≡ true → 0 < length others
    → Err NoCoding ≡ coding_in (map (λ s. s.now) codings)
several codings others last is chunked some =
    let back = length-reverse (map (λ s. s.now) others) in
    let long = length-map others (λ s. s.now) in
    sym (last_is codings others last is ∙ rw chunked (some_back _ (omega (arith, back, long, some))))

pub only : (codings : List (Bor (List ℕ))) (last : Bor (List ℕ)) (others : List (Bor (List ℕ))) → codings ≡ others ++ last ∷ [] → is_chunked last.now ≡ true → length others ≡ 0
    → Ok Chunked ≡ coding_in (map (λ s. s.now) codings)
only codings last [] is chunked none = sym (last_is codings [] last is ∙ rw chunked refl)
only codings last (o ∷ others) is chunked none = absurd (omega arith)

pub other_last : (codings others : List (Bor (List ℕ))) (last : Bor (List ℕ)) → codings ≡ others ++ last ∷ [] → is_chunked last.now ≡ false → Err Malformed ≡ coding_in (map (λ s. s.now) codings)
other_last codings others last is other = sym (last_is codings others last is ∙ rw other refl)

pub none_at_all : (codings : List (Bor (List ℕ))) → length codings ≡ 0 → Err Malformed ≡ coding_in (map (λ s. s.now) codings)
none_at_all [] none = refl
none_at_all (c ∷ codings) none = absurd (omega arith)
