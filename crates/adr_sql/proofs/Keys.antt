-- The tests that SQL makes of keys are those of `has_key`.
use Rattle.std.proofs.Common.{◌≡◌, ℕ, zero, suc, Bool, true, false, not, ◌&&◌, List, [], ◌∷◌, drop, Some, refl, sym, ap, ap₂, ◌∙◌, Ordering, Less, Equal, Greater, is_eq}
use Rattle.adr_sql.proofs.Common.{ordering_reverse, ordering_then, both_ways, false_from_ne_true, and_parts, not-true, Value, Null, Int, Real, Text, Blob, Binary, Row, column, value_cmp, rising, plain, first_key, value_cmp_total, binary, is_null, is_true, from_truth, key_cmp, equal, agree}
use Rattle.sqlite_value.proofs.KeyLemmas.{first_key-plain}
use Rattle.adr_sql.specs.Keys.{has_key}

-- ---- truth and order

pub same_bool : (a b : Bool) → (a ≡ true → b ≡ true) → (b ≡ true → a ≡ true) → a ≡ b
same_bool true b f g = sym (f refl)
same_bool false b f g = sym (false_from_ne_true b (λ e. both_ways false refl (g e)))

pub and_true : (b : Bool) → (b && true) ≡ b
and_true true = refl
and_true false = refl

pub ties : (o : Ordering) → is_eq o ≡ true → o ≡ Equal
ties Less h = absurd cc
ties Equal h = refl
ties Greater h = absurd cc

pub then_eq : (o p : Ordering) → is_eq (ordering_then o p) ≡ (is_eq o && is_eq p)
then_eq Less p = refl
then_eq Equal p = refl
then_eq Greater p = refl

pub told : (b : Bool) → is_true (from_truth (Some b)) ≡ b
told true = refl
told false = refl

-- ---- values

pub turned_tie : (o : Ordering) → is_eq (ordering_reverse o) ≡ is_eq o
turned_tie Less = refl
turned_tie Equal = refl
turned_tie Greater = refl

pub tie_turned : (x y : Value) → is_eq (value_cmp x y) ≡ is_eq (value_cmp y x)
tie_turned x y = ap is_eq (value_cmp_total.antisymm x y) ∙ turned_tie (value_cmp y x)

null_apart : (y : Value) → is_null y ≡ false → is_eq (value_cmp y Null) ≡ false
unfolding value_cmp
null_apart Null full = absurd cc
null_apart (Int n) full = refl
null_apart (Real x) full = refl
null_apart (Text t) full = refl
null_apart (Blob b) full = refl

-- `=` where the second value is not NULL
pub equal_is : (x y : Value) → is_null y ≡ false → equal Binary x y ≡ is_eq (value_cmp y x)
unfolding binary
equal_is Null y full = sym (null_apart y full)
equal_is (Int n) y full = rw full (told _ ∙ tie_turned (Int n) y)
equal_is (Real n) y full = rw full (told _ ∙ tie_turned (Real n) y)
equal_is (Text n) y full = rw full (told _ ∙ tie_turned (Text n) y)
equal_is (Blob n) y full = rw full (told _ ∙ tie_turned (Blob n) y)

-- ---- columns

-- the places of n columns behind the rowid, from one on
abbrev pub places_from : ℕ → ℕ → List ℕ
places_from at zero = []
places_from at (suc n) = suc at ∷ places_from (suc at) n

-- none of the n columns from one on is NULL
abbrev pub are_full : ℕ → ℕ → Row → Bool
are_full at zero row = true
are_full at (suc n) row = not (is_null (column row at)) && are_full (suc at) n row

pub column_drop : (row : Row) (at : ℕ) → column (drop 1 row) at ≡ column row (suc at)
column_drop [] at = refl
column_drop (v ∷ row) at = refl

agree_from : (n at : ℕ) (a b : Row) → are_full at n (drop 1 b) ≡ true → agree plain (places_from at n) a (places_from at n) b ≡ is_eq (key_cmp at (rising n []) (drop 1 b) (drop 1 a))
agree_from zero at a b full = refl
agree_from (suc n) at a b full =
    let parts = and_parts _ _ full in
    let here : equal (first_key plain).collation (column a (suc at)) (column b (suc at)) ≡ is_eq (value_cmp (column (drop 1 b) at) (column (drop 1 a) at)) =
    rw (first_key-plain, column_drop a at, column_drop b at) (equal_is (column a (suc at)) (column b (suc at)) (ap is_null (sym (column_drop b at)) ∙ not-true _ parts.0)) in
    ap₂ ◌&&◌ here (agree_from n (suc at) a b parts.1) ∙ sym (then_eq _ _)

-- a unique index finds the rows with the key
pub agree_is : (n : ℕ) (a b : Row) → are_full 0 n (drop 1 b) ≡ true → agree plain (places_from 0 n) a (places_from 0 n) b ≡ has_key n (drop 1 b) (drop 1 a)
agree_is n a b full = agree_from n 0 a b full
