-- The fields of what is kept read back, and read as they were written.
use Rattle.std.proofs.Common.{◌≡◌, ℕ, suc, ◌^◌, ◌<◌, ◌≤◌, ℤ, pos, negsuc, true, List, [], ◌∷◌, codes, Option, None, option_map, Ok, refl, ap, arith}
use Rattle.std.specs.Prelude.{IfSome, option_and_then}
use Rattle.std.proofs.lemmas.Bool.{lt-ltb, ltb-true, leb-true}
use Rattle.std.proofs.lemmas.Slice.Eq.{bytes_eq-Decides}
use Rattle.json.proofs.Printed.Decimals.{IsNumber-decimal, IsNumber-signed_decimal}
use Rattle.serde_json.specs.Data.{Data, string, number}
use Rattle.serde_json.specs.Find.{get}
use Rattle.serde_json.proofs.Numbers.{number_of-decimal, number_of-negative}
use Rattle.adr_text.specs.Fields.{is_i32, is_i64, present, optional}
use Rattle.adr_text.specs.Names.{is_name}
use Rattle.adr_text.specs.Objects.{array_of, whole_data}
use Rattle.adr_text.proofs.FieldLemmas.{list_of-items_of}
use Rattle.adr_text.proofs.ObjectLemmas.{get-object_of, found_after, over}
use Rattle.adr_objects.specs.declared.interval.Period.{Period}
use Rattle.adr_objects.specs.Limits.{most_priority}
use Rattle.adr_objects.specs.Fields.{priority_in}
use Rattle.adr_objects.specs.Canonical.{natural_data, period_data}
use Rattle.adr_objects.specs.Bodies.{IsPeriod}
use Rattle.adr_objects.proofs.RoundTrips.{name_reads_back, priority_reads_back, optional_reads_back, field_written, period_written}
use Rattle.adr_objects.proofs.Written.{IsWritten, FieldIsWritten, string_written, object_written}
use Rattle.adr_written.specs.Objects.{values_fields, values_data}
use Rattle.adr_shown.specs.ReadValues.{values_in, value_in, amount_in, target_in}

-- ---- what may be absent

pub optional_priority : (o : Option ℕ) → IfSome o (λ n. n ≤ most_priority) → optional (option_and_then present (over (option_map natural_data o) None)) priority_in ≡ Ok o
optional_priority o h = optional_reads_back (λ n. n ≤ most_priority) natural_data priority_in (λ n k. refl) priority_reads_back o h

-- ---- payloads and targets

values_at : (name type : List ℕ) (values : List Data) → get name (values_data type values) ≡ found_after name None (values_fields type (array_of values))
unfolding values_data
values_at name type values = get-object_of name (values_fields type (array_of values))

pub values_read_back : (type : List ℕ) (values : List Data) → values_in type (values_data type values) ≡ Ok values
unfolding values_in
values_read_back type values =
    rw (values_at (codes "type") type values, (bytes_eq-Decides type type).1 refl, values_at (codes "values") type values, list_of-items_of values) refl

pub value_reads_back : (type : List ℕ) (d : Data) → value_in type (values_data type (d ∷ [])) ≡ Ok d
unfolding value_in
value_reads_back type d = rw (values_read_back type (d ∷ [])) refl

pub amount_reads_back : (type : List ℕ) (z : ℤ) → is_i64 z ≡ true → amount_in type (values_data type (whole_data z ∷ [])) ≡ Ok z
unfolding amount_in
amount_reads_back type (pos n) h = rw (value_reads_back type (whole_data (pos n)), h) refl
amount_reads_back type (negsuc n) h = rw (value_reads_back type (whole_data (negsuc n))) refl

pub target_reads_back : (type name : List ℕ) → is_name name ≡ true → target_in type (values_data type (string name ∷ [])) ≡ Ok name
unfolding target_in
target_reads_back type name h = rw (value_reads_back type (string name), name_reads_back name h) refl

-- ---- what is written is read as it was written

pub amount_written : (n : ℕ) (z : ℤ) → is_i64 z ≡ true → IsWritten n (whole_data z)
amount_written n (pos k) h =
    let small : k < 2 ^ 63 = ltb-true k (2 ^ 63) h in
    record { same = ap (option_map number) (number_of-decimal k (omega arith)); numbers = IsNumber-decimal k (omega arith); flat = omega arith; no_float = refl }
amount_written n (negsuc k) h =
    let small : k < 2 ^ 63 = ltb-true k (2 ^ 63) h in
    record { same = ap (option_map number) (number_of-negative k small); numbers = IsNumber-signed_decimal (negsuc k) (omega arith); flat = omega arith; no_float = refl }

pub i32_written : (n : ℕ) (z : ℤ) → is_i32 z ≡ true → IsWritten n (whole_data z)
i32_written n (pos k) h = amount_written n (pos k) (lt-ltb k (2 ^ 63) (omega (arith, leb-true k 2147483647 h)))
i32_written n (negsuc k) h = amount_written n (negsuc k) (lt-ltb k (2 ^ 63) (omega (arith, leb-true (suc k) 2147483648 h)))

pub priority_written : (n : ℕ) (o : Option ℕ) → IfSome o (λ rank. rank ≤ most_priority) → FieldIsWritten n (option_map natural_data o)
priority_written n o h = field_written n (λ rank. rank ≤ most_priority) natural_data (λ rank k. amount_written n (pos rank) (lt-ltb rank (2 ^ 63) (omega arith))) o h

pub maybe_period_written : (n : ℕ) (o : Option Period) → IfSome o IsPeriod → FieldIsWritten (suc n) (option_map period_data o)
maybe_period_written n o h = field_written (suc n) IsPeriod period_data (period_written n) o h

-- a payload or a target, by its values as an array
pub values_written : (n : ℕ) (type : List ℕ) (values : List Data) → IsWritten n (array_of values) → IsWritten (suc n) (values_data type values)
unfolding values_data
values_written n type values h = object_written n (values_fields type (array_of values)) refl (string_written n type, (h, tt))
