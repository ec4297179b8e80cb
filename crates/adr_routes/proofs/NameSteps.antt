-- The names in a path, part by part.
use Rattle.std.proofs.Common.{◌≡◌, ℕ, ◌+◌, ◌<◌, ◌≤◌, List, [], ◌∷◌, ◌++◌, length, map, drop, get_or, refl, sym, ap, ◌∙◌, arith, append_assoc, append-nil, min, ◌⊎◌, inl, inr}
use Rattle.std.specs.Borrow.{Bor}
use Rattle.std.proofs.lemmas.List.{at_drop_more, at_drop_all}
use Rattle.adr_routes.specs.Shapes.{Part, word, any, part_of, one_name, names_in}

-- the names in the parts behind borrows
abbrev pub named : List (Bor (List ℕ)) → List (Bor (List ℕ)) → List (List ℕ)
named texts given = names_in (map part_of (map (λ s. s.now) texts)) (map (λ s. s.now) given)

one_part : (p : Part) (s : List ℕ) (ps : List Part) (rest : List (List ℕ)) → names_in (p ∷ ps) (s ∷ rest) ≡ one_name p s ++ names_in ps rest
one_part (word w) s ps rest = refl
one_part any s ps rest = refl

no_part : (ps : List Part) → names_in ps [] ≡ []
no_part [] = refl
no_part (p ∷ ps) = refl

pub name_pushed : (texts given names new : List (Bor (List ℕ))) (i : ℕ) (d e : Bor (List ℕ)) (total : List (List ℕ)) → i < length texts → i < length given
    → map (λ s. s.now) new ≡ map (λ s. s.now) names ++ one_name (part_of (get_or texts i d).now) (get_or given i e).now
    → map (λ s. s.now) names ++ named (drop i texts) (drop i given) ≡ total → map (λ s. s.now) new ++ named (drop (i + 1) texts) (drop (i + 1) given) ≡ total
name_pushed texts given names new i d e total below within grown is =
    let t = get_or texts i d in
    let g = get_or given i e in
    let old : List (List ℕ) = map (λ s. s.now) names in
    let rest : List (List ℕ) = named (drop (i + 1) texts) (drop (i + 1) given) in
    let step : named (drop i texts) (drop i given) ≡ one_name (part_of t.now) g.now ++ rest =
    at_drop_more (λ left. named left (drop i given)) texts i d below
    ∙ at_drop_more (named (t ∷ drop (i + 1) texts)) given i e within
    ∙ one_part (part_of t.now) g.now (map part_of (map (λ s. s.now) (drop (i + 1) texts))) (map (λ s. s.now) (drop (i + 1) given)) in
    ap (λ z. z ++ rest) grown ∙ append_assoc old (one_name (part_of t.now) g.now) rest ∙ ap (λ z. old ++ z) (sym step) ∙ is

pub names_done : (texts given : List (Bor (List ℕ))) (names total : List (List ℕ)) (i most : ℕ) → most ≡ min (length texts) (length given) → most ≤ i
    → names ++ named (drop i texts) (drop i given) ≡ total → names ≡ total
names_done texts given names total i most is past e = sym (append-nil names) ∙ sym (ap (λ z. names ++ z) (none (grind arith))) ∙ e
  where
    none : (length texts ≤ i) ⊎ (length given ≤ i) → named (drop i texts) (drop i given) ≡ []
    none (inl h) = at_drop_all (λ left. named left (drop i given)) texts i h
    none (inr h) = at_drop_all (named (drop i texts)) given i h ∙ no_part (map part_of (map (λ s. s.now) (drop i texts)))
