-- Digits only make a number larger.
use Rattle.std.proofs.Common.{◌≡◌, ℕ, suc, ◌+◌, ◌-◌, ◌*◌, ◌<◌, ◌≤◌, Bool, true, false, ◌&&◌, cond, Some, None, List, [], ◌∷◌, length, drop, get_or, drop-cons, refl, sym, not, ◌==◌, arith}
use Rattle.std.proofs.lemmas.Bool.{lt-leb}
use Rattle.std.specs.List.{list_all}
use Rattle.adr_state.specs.Digits.{is_digit, read_on, number_within}

pub read_on-grows : (n : ℕ) (ds : List ℕ) → n ≤ read_on n ds
read_on-grows n [] = omega arith
read_on-grows n (d ∷ ds) = omega (arith, read_on-grows (n * 10 + (d - 48)) ds)

no_value : (a b : Bool) (x : ℕ) → cond (a && b && false) (Some x) None ≡ None
no_value true true x = refl
no_value true false x = refl
no_value false b x = refl

-- digits that went above the limit write no number within it
pub too_large : (most n i : ℕ) (ds : List ℕ) → i < length ds → read_on n (drop i ds) ≡ read_on 0 ds → most < n * 10 + (get_or ds i 0 - 48) → None ≡ number_within most ds
too_large most n i ds inside so_far above =
    let step : n * 10 + (get_or ds i 0 - 48) ≤ read_on (n * 10 + (get_or ds i 0 - 48)) (drop (suc i) ds) = read_on-grows (n * 10 + (get_or ds i 0 - 48)) (drop (suc i) ds) in
    let whole : read_on n (get_or ds i 0 ∷ drop (suc i) ds) ≡ read_on 0 ds = rw (drop-cons ds i 0 inside) at so_far in
    let large : most < read_on 0 ds = omega arith in
    rw (lt-leb (read_on 0 ds) most large) (sym (no_value (not (length ds == 0)) (list_all is_digit ds) (read_on 0 ds)))
