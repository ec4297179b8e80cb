-- Fields of JSON objects, as values or the first fault.
use Rattle.std.specs.Prelude.{ℕ, suc, ◌^◌, nat_lt, nat_le, Bool, true, false, ℤ, pos, negsuc, List, [], ◌∷◌, Option, Some, None, option_and_then, option_map, Result, Ok, Err, if◌then◌else◌}
use Rattle.std.specs.List.{list_all}
use Rattle.std.specs.Str.{is_utf8}
use Rattle.serde_json.specs.Data.{Num, unsigned, negative, float, Data, null, boolean, number, string, array, object, Items, no_items, item}
use Rattle.serde_json.specs.Find.{get, as_str, as_array}
use Rattle.serde_json.specs.Read.{read}
use Rattle.adr_text.specs.Ids.{id_of}
use Rattle.adr_text.specs.Moments.{moment_of}
use Rattle.adr_text.specs.Names.{name_of}
use Rattle.adr_text.specs.Refusals.{◌>>=◌, or_else}
use Rattle.adr_text.specs.Faults.{as_fault}
use Rattle.adr_text.specs.declared.fault.Fault.{Fault}
use Rattle.adr_text.specs.declared.fault.Fault.TheVariants as fault
use Rattle.adr_text.specs.declared.number.Whole.{Whole}
use Rattle.adr_text.specs.declared.number.Whole.TheVariants.{In, Beyond, Fraction, NoNumber}

abbrev pub whole_number : Num → Whole
whole_number (unsigned n) = if nat_lt n (2 ^ 63) then In (pos n) else Beyond
whole_number (negative z) = In z
whole_number (float x) = Fraction

-- what a value is as a whole number: one in 64 bits with a sign, one beyond them, another number, or none
abbrev pub whole_of : Data → Whole
whole_of null = NoNumber
whole_of (boolean b) = NoNumber
whole_of (number n) = whole_number n
whole_of (string s) = NoNumber
whole_of (array ds) = NoNumber
whole_of (object ms) = NoNumber

-- null is as good as absent
abbrev pub present : Data → Option Data
present null = None
present (boolean b) = Some (boolean b)
present (number n) = Some (number n)
present (string s) = Some (string s)
present (array ds) = Some (array ds)
present (object ms) = Some (object ms)

-- a member of an object, where null is as good as absent
abbrev pub member_of : List ℕ → Data → Option Data
member_of name d = option_and_then present (get name d)

-- a text
abbrev pub text_of : Data → Result (List ℕ) Fault
text_of d = or_else fault.BadShape (as_str d)

-- an array's items, as a list
abbrev pub list_of : Items → List Data
list_of no_items = []
list_of (item d ds) = d ∷ list_of ds

-- the items of an array, in their order, and for any other value the wrong shape
abbrev pub items_in : Data → Result (List Data) Fault
items_in d = or_else fault.BadShape (option_map list_of (as_array d))

-- the value is an object, and no array, text, number, boolean or null
abbrev pub is_object : Data → Bool
is_object null = false
is_object (boolean b) = false
is_object (number n) = false
is_object (string s) = false
is_object (array ds) = false
is_object (object ms) = true

-- a list of objects. All of it is looked at before the first of them is read.
unfoldable pub objects_in : Data → Result (List Data) Fault
objects_in d = do
  ds ← items_in d
  if list_all is_object ds then Ok ds else Err fault.BadShape

-- what the bytes are as JSON
abbrev pub value_in : List ℕ → Result Data Fault
value_in bytes = if is_utf8 bytes then or_else fault.BadShape (read bytes) else Err fault.BadShape

-- a member that has to be there
abbrev pub required : {A : Type 0} → Option Data → (Data → Result A Fault) → Result A Fault
required None f = Err fault.BadShape
required (Some d) f = f d

-- a member that may be absent
abbrev pub optional : {A : Type 0} → Option Data → (Data → Result A Fault) → Result (Option A) Fault
optional None f = Ok None
optional (Some d) f = f d >>= λ x. Ok (Some x)

-- each item of a list, up to the first fault
abbrev pub each : {A : Type 0} → (Data → Result A Fault) → List Data → Result (List A) Fault
each f [] = Ok []
each f (d ∷ ds) = f d >>= λ x. each f ds >>= λ xs. Ok (x ∷ xs)

-- the number, or why there is none
abbrev pub whole_from : Whole → Result ℤ Fault
whole_from (In z) = Ok z
whole_from Beyond = Err fault.OutOfRange
whole_from Fraction = Err fault.Fraction
whole_from NoNumber = Err fault.BadShape

-- ---- fields of this crate's types

-- a text of 1 to 128 letters, digits, '-' and '_', else the wrong shape
unfoldable pub id_in : Data → Result (List ℕ) Fault
id_in d = text_of d >>= λ text. as_fault (id_of text)

-- a text of 1 to 128 bytes, else the wrong shape
unfoldable pub name_in : Data → Result (List ℕ) Fault
name_in d = text_of d >>= λ text. as_fault (name_of text)

-- the moment that a text tells, as nanoseconds from 1970, else the wrong shape
unfoldable pub moment_in : Data → Result ℕ Fault
moment_in d = text_of d >>= λ text. as_fault (moment_of text)

-- from -2^31 to 2^31 - 1
abbrev pub is_i32 : ℤ → Bool
is_i32 (pos n) = nat_le n 2147483647
is_i32 (negsuc n) = nat_le (suc n) 2147483648

-- a whole number from -2^31 to 2^31 - 1, or its fault
unfoldable pub i32_in : Data → Result ℤ Fault
i32_in d = whole_from (whole_of d) >>= λ z. if is_i32 z then Ok z else Err fault.OutOfRange

-- from -2^63 to 2^63 - 1
abbrev pub is_i64 : ℤ → Bool
is_i64 (pos n) = nat_lt n (2 ^ 63)
is_i64 (negsuc n) = nat_lt n (2 ^ 63)

-- at most 2^32 - 1
abbrev pub is_u32 : ℕ → Bool
is_u32 n = nat_le n 4294967295

abbrev pub u32_from : ℤ → Result ℕ Fault
u32_from (pos n) = if is_u32 n then Ok n else Err fault.OutOfRange
u32_from (negsuc n) = Err fault.OutOfRange

-- a whole number from 0 to 2^32 - 1, or its fault
unfoldable pub u32_in : Data → Result ℕ Fault
u32_in d = whole_from (whole_of d) >>= u32_from
