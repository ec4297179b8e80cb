-- Digits that are written of a number are read as it, and no others are.
use Rattle.std.proofs.Common.{◌≡◌, ◌≢◌, ◌≤◌, ◌<◌, ◌^◌, ◌+◌, ◌==◌, ◌&&◌, ℕ, suc, zero, Bool, true, false, not, cond, List, [], ◌∷◌, ◌++◌, length, take, drop, get_or, Some, None, option_map, option_and_then, Ok, Err, decimal, nat_le, nat_lt, refl, sym, ap, ap₂, ◌∙◌, arith, rules, length-append, take_all}
use Rattle.std.proofs.lemmas.Bool.{and_parts}
use Rattle.std.proofs.lemmas.Bool.Decides.{nat_tests}
use Rattle.std.proofs.lemmas.Fmt.{decimal_is_IsNumeral, decimal_digit, first_decimal, decimal-digits_value, length-decimal-le}
use Rattle.std.proofs.lemmas.List.{take-append-le}
use Rattle.std.proofs.lemmas.List.Folds.{list_all-append}
use Rattle.std.proofs.lemmas.Option.{same_Some}
use Rattle.std.proofs.lemmas.Str.Parse.{IsNumeralModel, IsDigitsTest, numerals_by_fold, digit_from_value}
use Rattle.std.specs.List.{list_all, position_or_len}
use Rattle.std.specs.Ordering.{nat_cmp}
use Rattle.std.specs.Result.{result_ok}
use Rattle.std.specs.Str.Parse.{AllDigits}
use Rattle.adr_text.specs.declared.refusal.Refusal.TheVariants.{BadShape}
use Rattle.adr_text.specs.Ids.{is_id, is_id_byte}
use Rattle.adr_objects.specs.Limits.{is_upstream_id}
use Rattle.adr_written.specs.Ids.{resource_id, shown_id}
use Rattle.adr_state.specs.Digits.{most_number, is_digit, read_on, number_within, starts_with_zero, number_in}
use Rattle.adr_state.specs.Keys.{at}
use Rattle.adr_state.specs.ShownIds.{resource_part, event_part, id_in, resource_named}
use Rattle.adr_state.specs.Resources.{resource_with_id}
use Rattle.adr_state.specs.Within.{where_within}
use Rattle.adr_view_laws.specs.ReadIds.{ReadsBack, IdsReadBack, RowsAreFoundByIds, ShownIdsReadBack}

-- ---- digits

are_digits : IsDigitsTest (λ ds. list_all is_digit ds ≡ true)
are_digits = search rules

read_as : IsNumeralModel (λ ds. list_all is_digit ds ≡ true) (read_on 0)
read_as = numerals_by_fold (λ ds. list_all is_digit ds ≡ true) are_digits read_on (search rules)

-- what is known of the digits that are written
record AreDigitsOf (n : ℕ) (ds : List ℕ) : Type 0 where
  some : (length ds == 0) ≡ false
  digits : list_all is_digit ds ≡ true
  number : read_on 0 ds ≡ n

digits_of : (n : ℕ) → n < 2 ^ 64 → AreDigitsOf n (decimal n)
digits_of n small =
    let d = decimal_is_IsNumeral n small in
    record {
      some = let l = d.0.0 in grind (arith, nat_tests);
      digits = read_as.from (decimal n) d.0.1;
      number = read_as.same (decimal n) d.0.1 ∙ d.1;
    }

-- the first is not '0', unless the number is 0
no_zero : (ds : List ℕ) → 48 < get_or ds 0 0 → starts_with_zero ds ≡ false
no_zero [] above = refl
no_zero (d ∷ ds) above = grind (arith, nat_tests)

-- ---- an id of a letter

module _ (letter : ℕ) where
  its_letter : (letter == letter) ≡ true
  its_letter = grind (arith, nat_tests)

  reads : (n : ℕ) → n < 2 ^ 64 → number_in letter (letter ∷ decimal n) ≡ where_within most_number n
  reads zero small = rw (decimal_digit 0 (omega arith), its_letter) refl
  reads (suc m) small =
      let n : ℕ = suc m in
      let d : AreDigitsOf n (decimal n) = digits_of n small in
      let first : starts_with_zero (decimal n) ≡ false = no_zero (decimal n) (first_decimal n (omega arith) small) in
      let one : nat_le 1 n ≡ true = grind (arith, nat_tests) in
      rw (its_letter, first, d.some, d.digits, d.number, one) refl

  other_letter : (other : ℕ) (ds : List ℕ) → other ≢ letter → number_in other (letter ∷ ds) ≡ None
  other_letter other ds differ = let no : (letter == other) ≡ false = grind (arith, nat_tests) in rw no refl

  -- and no other text is read as the number
  only_text : (n : ℕ) (text : List ℕ) → number_in letter text ≡ Some n → text ≡ letter ∷ decimal n
  only_text n [] is = absurd (cc)
  only_text n (b ∷ ds) is = by (b == letter) refl (starts_with_zero ds) refl is
    where
      zero_first : (ds : List ℕ) → starts_with_zero ds ≡ false → get_or ds 0 0 ≡ 48 → length ds ≡ 1
      zero_first [] other is = absurd (omega arith)
      zero_first (d ∷ ds) other is = absurd (let no : (d == 48) ≡ true = grind (arith, nat_tests) in cc)

      within : (none : Bool) → (length ds == 0) ≡ none → (are : Bool) → list_all is_digit ds ≡ are → (few : Bool) → nat_le (read_on 0 ds) most_number ≡ few → starts_with_zero ds ≡ false
          → cond (not none && are && few) (Some (read_on 0 ds)) None ≡ Some n → ds ≡ decimal n
      within false some true are true few other is =
          let number : read_on 0 ds ≡ n = same_Some (read_on 0 ds) n is in
          let small : read_on 0 ds < 2 ^ 64 = grind (arith, nat_tests) in
          let longer : 0 < length ds = grind (arith, nat_tests) in
          sym (decimal-digits_value read_as ds are longer (zero_first ds other) small) ∙ ap decimal number
      within false some true are false few other is = absurd (cc)
      within false some false are few too other is = absurd (cc)
      within true some are h few too other is = absurd (cc)

      by : (same : Bool) → (b == letter) ≡ same → (zeros : Bool) → starts_with_zero ds ≡ zeros → cond (same && not zeros) (number_within most_number ds) None ≡ Some n → b ∷ ds ≡ letter ∷ decimal n
      by true same false other is =
          let first : b ≡ letter = grind (arith, nat_tests) in
          ap₂ ◌∷◌ first (within (length ds == 0) refl (list_all is_digit ds) refl (nat_le (read_on 0 ds) most_number) refl other is)
      by true same true other is = absurd (cc)
      by false same zeros other is = absurd (cc)

  pub reads_back : (n : ℕ) → n < 2 ^ 64 → ReadsBack letter n (letter ∷ decimal n)
  reads_back n small = record { where_it_may_be_drawn = reads n small; by_no_other_letter = λ other differ. other_letter other (decimal n) differ; no_other_text = only_text n }

-- ---- the parts of the id of what is shown

-- no digit is a '-'
no_hyphen : (ds : List ℕ) → AllDigits 10 ds → list_all (λ b. not (b == 45)) ds ≡ true
no_hyphen [] d = refl
no_hyphen (c ∷ ds) d =
    let b = digit_from_value c d.0 in
    let e : (c == 45) ≡ false = grind (arith, nat_tests) in
    rw e (no_hyphen ds d.1)

module _ (event : List ℕ) where
  -- the first '-' is the one behind what has none
  hyphen_at : (front : List ℕ) → list_all (λ b. not (b == 45)) front ≡ true → position_or_len (λ b. b == 45) (front ++ 45 ∷ event) ≡ length front
  hyphen_at [] none = refl
  hyphen_at (b ∷ front) none =
      let parts = and_parts (not (b == 45)) (list_all (λ b. not (b == 45)) front) none in
      rw (parts.0) (let rest = hyphen_at front parts.1 in omega (arith, rest))

  front_of : (front : List ℕ) → list_all (λ b. not (b == 45)) front ≡ true → resource_part (front ++ 45 ∷ event) ≡ front
  front_of front none = ap (λ i. take i (front ++ 45 ∷ event)) (hyphen_at front none) ∙ take-append-le (length front) front (45 ∷ event) (omega arith) ∙ take_all (length front) front (omega arith)

  behind : (front : List ℕ) → drop (length front + 1) (front ++ 45 ∷ event) ≡ event
  behind [] = refl
  behind (b ∷ front) = let one : length (b ∷ front) + 1 ≡ suc (length front + 1) = omega arith in ap (λ i. drop i ((b ∷ front) ++ 45 ∷ event)) one ∙ behind front

  back_of : (front : List ℕ) → list_all (λ b. not (b == 45)) front ≡ true → event_part (front ++ 45 ∷ event) ≡ Some event
  back_of front none =
      let there : nat_lt (length front) (length (front ++ 45 ∷ event)) ≡ true = let l = length-append front (45 ∷ event) in grind (arith, nat_tests) in
      ap (λ p. option_map (λ i. drop (i + 1) (front ++ 45 ∷ event)) (cond (nat_lt p (length (front ++ 45 ∷ event))) (Some p) None)) (hyphen_at front none)
      ∙ ap (λ b. option_map (λ i. drop (i + 1) (front ++ 45 ∷ event)) (cond b (Some (length front)) None)) there
      ∙ ap (λ e. Some e) (behind front)

-- ---- ids as texts

digits_of_ids : (ds : List ℕ) → AllDigits 10 ds → list_all is_id_byte ds ≡ true
digits_of_ids [] d = refl
digits_of_ids (c ∷ ds) d =
    let b = digit_from_value c d.0 in
    let e : is_id_byte c ≡ true = grind (arith, nat_tests) in
    rw e (digits_of_ids ds d.1)

-- the id of a resource is an object id
resource_is_id : (n : ℕ) → n ≤ most_number → id_in (resource_id n) ≡ Some (resource_id n)
resource_is_id n few =
    let small : n < 2 ^ 64 = omega (arith, few) in
    let short : length (decimal n) ≤ 16 = length-decimal-le 16 n (omega arith) (omega (arith, few)) small in
    let fits : nat_le (length (resource_id n)) 128 ≡ true = grind (arith, nat_tests) in
    let some : nat_le 1 (length (resource_id n)) ≡ true = grind (arith, nat_tests) in
    let d = decimal_is_IsNumeral n small in
    rw (fits, some, digits_of_ids (decimal n) d.0.1) refl

-- and so is that of what it is shown
shown_is_id : (n : ℕ) (event : List ℕ) → n ≤ most_number → is_upstream_id event ≡ true → is_id (shown_id n event) ≡ true
shown_is_id n event few is =
    let small : n < 2 ^ 64 = omega (arith, few) in
    let digits : length (decimal n) ≤ 16 = length-decimal-le 16 n (omega arith) (omega (arith, few)) small in
    let parts = and_parts (nat_le (length event) 100) (is_id event) is in
    let short : length event ≤ 100 = let l = parts.0 in grind (arith, nat_tests) in
    let of_ids = and_parts (nat_le 1 (length event) && nat_le (length event) 128) (list_all is_id_byte event) parts.1 in
    let long : length (shown_id n event) ≡ length (resource_id n) + length (45 ∷ event) = length-append (resource_id n) (45 ∷ event) in
    let fits : nat_le (length (shown_id n event)) 128 ≡ true = grind (arith, nat_tests) in
    let some : nat_le 1 (length (shown_id n event)) ≡ true = grind (arith, nat_tests) in
    let d = decimal_is_IsNumeral n small in
    rw (fits, some) (list_all-append is_id_byte (resource_id n) (45 ∷ event) ∙ ap₂ ◌&&◌ (digits_of_ids (decimal n) d.0.1) of_ids.1)

-- ---- the laws

pub ids_back : IdsReadBack
ids_back n small = record { ven = reads_back 118 n small; resource = reads_back 114 n small; report = reads_back 112 n small; sub = reads_back 115 n small }

-- a number that may be drawn
may_be_drawn : (n : ℕ) → 1 ≤ n → n ≤ most_number → where_within most_number n ≡ Some n
may_be_drawn n one few =
    let above : nat_le 1 n ≡ true = grind (arith, nat_tests) in
    let below : nat_le n most_number ≡ true = grind (arith, nat_tests) in
    rw (above, below) refl

reads_drawn : (letter n : ℕ) → 1 ≤ n → n ≤ most_number → number_in letter (letter ∷ decimal n) ≡ Some n
reads_drawn letter n one few = reads letter n (omega (arith, few)) ∙ may_be_drawn n one few

pub rows_found : RowsAreFoundByIds
rows_found p n one few = record {
  ven = ap (option_and_then (λ n. option_map (λ v. (n, v)) (at nat_cmp n p.vens))) (reads_drawn 118 n one few);
  resource = ap (option_and_then (λ n. option_map (λ r. (n, r)) (at nat_cmp n p.resources))) (reads_drawn 114 n one few);
  report = ap (option_and_then (λ n. option_map (λ r. (n, r)) (at nat_cmp n p.reports))) (reads_drawn 112 n one few);
  sub = ap (option_and_then (λ n. option_map (λ s. (n, s)) (at nat_cmp n p.subs))) (reads_drawn 115 n one few);
}

pub shown_ids_back : ShownIdsReadBack
shown_ids_back n event one few is =
    let d = decimal_is_IsNumeral n (omega (arith, few)) in
    let none : list_all (λ b. not (b == 45)) (resource_id n) ≡ true = no_hyphen (decimal n) d.0.1 in
    let first : resource_part (shown_id n event) ≡ resource_id n = front_of event (resource_id n) none in
    let rest : event_part (shown_id n event) ≡ Some event = back_of event (resource_id n) none in
    record {
      whole = shown_is_id n event few is;
      front = first;
      back = rest;
      the_resource = λ p. ap (resource_named p) first ∙ ap (option_and_then (λ id. resource_with_id id p)) (resource_is_id n few) ∙ (rows_found p n one few).resource;
      the_event = ap (option_and_then id_in) rest ∙ ap (λ b. result_ok (cond b (Ok event) (Err BadShape))) (and_parts (nat_le (length event) 100) (is_id event) is).1;
    }
