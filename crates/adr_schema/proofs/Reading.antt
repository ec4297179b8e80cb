-- Loops over JSON values.
use Rattle.std.proofs.Common.{◌≡◌, Bool, true, false, ◌||◌, ℤ, List, [], ◌∷◌, ◌++◌, map, refl, sym, ap, ◌∙◌, append_assoc}
use Rattle.std.specs.Ordering.{int_eq}
use Rattle.std.specs.List.{list_any}
use Rattle.std.proofs.lemmas.Bool.{and_parts, not-true}
use Rattle.std.proofs.lemmas.List.{append-nil, map-append}
use Rattle.std.proofs.lemmas.List.Folds.{list_all-map}
use Rattle.adr_objects.specs.Intervals.{has_id, differ_after, differ}

pub list_any-map : {X Y : Type 0} (p : Y → Bool) (f : X → Y) (xs : List X) → list_any p (map f xs) ≡ list_any (λ x. p (f x)) xs
list_any-map p f [] = refl
list_any-map p f (x ∷ xs) = ap (λ (b : Bool). p (f x) || b) (list_any-map p f xs)

pub ruleset rules_of_lists = (list_all-map, list_any-map)

-- ---- lists of which no two elements have one id

-- one more, with an id of its own
differ_after-push : {A : Type 0} (id_of : A → ℤ) (before xs : List A) (x : A) → differ_after id_of before xs ≡ true → has_id id_of (id_of x) (before ++ xs) ≡ false → differ_after id_of before (xs ++ x ∷ []) ≡ true
differ_after-push id_of before [] x apart fresh = let here = rw append-nil at fresh in rw here refl
differ_after-push id_of before (y ∷ ys) x apart fresh =
    let both = and_parts _ _ apart in
    let later : has_id id_of (id_of x) ((before ++ y ∷ []) ++ ys) ≡ false = ap (has_id id_of (id_of x)) (append_assoc before (y ∷ []) ys) ∙ fresh in
    let first : has_id id_of (id_of y) before ≡ false = not-true _ both.0 in
    rw (first, differ_after-push id_of (before ++ y ∷ []) ys x both.1 later) refl

pub differ-push : {A : Type 0} (id_of : A → ℤ) (xs : List A) (x : A) → differ id_of xs ≡ true → has_id id_of (id_of x) xs ≡ false → differ id_of (xs ++ x ∷ []) ≡ true
differ-push id_of xs x apart fresh = differ_after-push id_of [] xs x apart fresh

-- it is up to the ids alone
abbrev itself : ℤ → ℤ
itself id = id

differ_after-ids : {A : Type 0} (id_of : A → ℤ) (before xs : List A) → differ_after itself (map id_of before) (map id_of xs) ≡ differ_after id_of before xs
differ_after-ids id_of before [] = refl
differ_after-ids id_of before (x ∷ xs) =
    rw (list_any-map (λ z. int_eq z (id_of x)) id_of before, ← map-append id_of before (x ∷ []), differ_after-ids id_of (before ++ x ∷ []) xs) refl

pub differ-same_ids : {A B : Type 0} (id_of : A → ℤ) (id_from : B → ℤ) (xs : List A) (ys : List B) → map id_of xs ≡ map id_from ys → differ id_from ys ≡ true → differ id_of xs ≡ true
differ-same_ids id_of id_from xs ys same apart =
    sym (differ_after-ids id_of [] xs) ∙ ap (differ_after itself []) same ∙ differ_after-ids id_from [] ys ∙ apart
