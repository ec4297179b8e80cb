-- The parts of bytes, part by part.
use Rattle.std.proofs.Common.{◌≡◌, ℕ, suc, ◌+◌, ◌<◌, ◌≤◌, ◌==◌, Bool, true, false, cond, refl, List, [], ◌∷◌, ◌++◌, length, take, drop, sym, ap, ◌∙◌, arith, nat_lt, Option, Some, None}
use Rattle.std.proofs.lemmas.Bool.Decides.{nat_tests}
use Rattle.std.proofs.Common.{map, append_assoc}
use Rattle.std.proofs.lemmas.List.{map_push}
use Rattle.std.specs.Borrow.{Bor}
use Rattle.std.specs.List.{position_or_len}
use Rattle.adr_wire.specs.Cuts.{cut_at, cut, parts}

-- the first part, and those behind it
abbrev pub parts_by : ℕ → List ℕ × Option (List ℕ) → List (List ℕ)
parts_by separator (part, None) = part ∷ []
parts_by separator (part, Some rest) = part ∷ parts separator rest

abbrev place : ℕ → List ℕ → ℕ
place separator bytes = position_or_len (λ b. b == separator) bytes

found : (separator : ℕ) (bytes : List ℕ) → place separator bytes < length bytes
    → parts separator bytes ≡ take (place separator bytes) bytes ∷ parts separator (drop (place separator bytes + 1) bytes)
found separator [] some = absurd (omega arith)
found separator (b ∷ bytes) some = by (b == separator) refl (λ less. found separator bytes less)
  where
    by : (v : Bool) → (b == separator) ≡ v
        → (place separator bytes < length bytes → parts separator bytes ≡ take (place separator bytes) bytes ∷ parts separator (drop (place separator bytes + 1) bytes))
        → parts separator (b ∷ bytes) ≡ take (place separator (b ∷ bytes)) (b ∷ bytes) ∷ parts separator (drop (place separator (b ∷ bytes) + 1) (b ∷ bytes))
    by true is ih = rw is refl
    by false is ih =
        let n = place separator bytes in
        let less : n < length bytes = omega (arith, rw is at some) in
        let next : 1 + n ≡ suc n = omega arith in
        let behind : suc n + 1 ≡ suc (n + 1) = omega arith in
        rw (is, ih less, next, behind) refl

none : (separator : ℕ) (bytes : List ℕ) → length bytes ≤ place separator bytes → parts separator bytes ≡ bytes ∷ []
none separator [] all = refl
none separator (b ∷ bytes) all = by (b == separator) refl (λ more. none separator bytes more)
  where
    by : (v : Bool) → (b == separator) ≡ v → (length bytes ≤ place separator bytes → parts separator bytes ≡ bytes ∷ []) → parts separator (b ∷ bytes) ≡ (b ∷ bytes) ∷ []
    by true is ih = absurd (omega (arith, rw is at all))
    by false is ih =
        let more : length bytes ≤ place separator bytes = omega (arith, rw is at all) in
        rw is (rw (ih more) refl)

pub parts_cut : (separator : ℕ) (bytes : List ℕ) → parts separator bytes ≡ parts_by separator (cut separator bytes)
unfolding cut
parts_cut separator bytes = by (nat_lt (place separator bytes) (length bytes)) refl
  where
    by : (v : Bool) → nat_lt (place separator bytes) (length bytes) ≡ v → parts separator bytes ≡ parts_by separator (cut_at bytes (cond v (Some (place separator bytes)) None))
    by true is = found separator bytes (grind (arith, nat_tests))
    by false is = none separator bytes (grind (arith, nat_tests))

-- ---- as they are collected

by_some : (separator : ℕ) (x : List ℕ × Option (List ℕ)) (part back : List ℕ) → part ≡ x.0 → Some back ≡ x.1 → parts_by separator x ≡ part ∷ parts separator back
by_some separator (p, None) part back e d = absurd cc
by_some separator (p, Some b) part back e d =
    let same : b ≡ back = cc d in
    rw (e, same) refl

by_none : (separator : ℕ) (x : List ℕ × Option (List ℕ)) (part : List ℕ) → part ≡ x.0 → None ≡ x.1 → parts_by separator x ≡ part ∷ []
by_none separator (p, None) part e d = rw e refl
by_none separator (p, Some b) part e d = absurd cc

pub one_part : (separator : ℕ) (rest total back : List ℕ) (old new : List (Bor (List ℕ))) (part : Bor (List ℕ)) → part.now ≡ (cut separator rest).0 → Some back ≡ (cut separator rest).1
    → map (λ s. s.now) old ++ parts separator rest ≡ parts separator total → new ≡ old ++ part ∷ [] → map (λ s. s.now) new ++ parts separator back ≡ parts separator total
one_part separator rest total back old new part front behind so_far is =
    let here : parts separator rest ≡ part.now ∷ parts separator back = parts_cut separator rest ∙ by_some separator (cut separator rest) part.now back front behind in
    ap (λ z. map (λ s. s.now) z ++ parts separator back) is
    ∙ ap (λ z. z ++ parts separator back) (map_push (λ s. s.now) old part)
    ∙ append_assoc (map (λ s. s.now) old) (part.now ∷ []) (parts separator back)
    ∙ sym (ap (λ z. map (λ s. s.now) old ++ z) here) ∙ so_far

pub last_part : (separator : ℕ) (rest total : List ℕ) (old new : List (Bor (List ℕ))) (part : Bor (List ℕ)) → part.now ≡ (cut separator rest).0 → None ≡ (cut separator rest).1
    → map (λ s. s.now) old ++ parts separator rest ≡ parts separator total → new ≡ old ++ part ∷ [] → map (λ s. s.now) new ≡ parts separator total
last_part separator rest total old new part front behind so_far is =
    let here : parts separator rest ≡ part.now ∷ [] = parts_cut separator rest ∙ by_none separator (cut separator rest) part.now front behind in
    ap (map (λ s. s.now)) is ∙ map_push (λ s. s.now) old part ∙ sym (ap (λ z. map (λ s. s.now) old ++ z) here) ∙ so_far
