-- What payloads and targets say: an object of a type and its values.
use Rattle.std.specs.Prelude.{ℕ, ℤ, List, [], ◌∷◌, codes, Result, Ok, Err, if◌then◌else◌}
use Rattle.std.specs.Str.{bytes_eq}
use Rattle.serde_json.specs.Data.{Data}
use Rattle.adr_text.specs.Refusals.{◌>>=◌}
use Rattle.adr_text.specs.Fields.{whole_of, member_of, text_of, items_in, required, each, whole_from, name_in}
use Rattle.adr_text.specs.declared.fault.Fault.{Fault}
use Rattle.adr_text.specs.declared.fault.Fault.TheVariants.{BadShape}

-- the word that a payload or a target has as its `type`
abbrev pub type_in : Data → Result (List ℕ) Fault
type_in d = required (member_of (codes "type") d) text_of

-- the values of a payload or a target of that type; one of another type has the wrong shape
unfoldable pub values_in : List ℕ → Data → Result (List Data) Fault
values_in type d = type_in d >>= λ word. if bytes_eq word type then required (member_of (codes "values") d) items_in else Err BadShape

-- the one item of a list
abbrev pub lone : List Data → Result Data Fault
lone [] = Err BadShape
lone (d ∷ []) = Ok d
lone (d ∷ e ∷ ds) = Err BadShape

-- the one value of a payload or a target of that type
unfoldable pub value_in : List ℕ → Data → Result Data Fault
value_in type d = values_in type d >>= lone

-- the whole number in 64 bits that is the one value of a payload of that type
unfoldable pub amount_in : List ℕ → Data → Result ℤ Fault
amount_in type d = value_in type d >>= λ value. whole_from (whole_of value)

-- the name that is the one value of a target of that type
unfoldable pub target_in : List ℕ → Data → Result (List ℕ) Fault
target_in type d = value_in type d >>= name_in

-- the items of an array, each read in turn up to the first fault
abbrev pub list_in : {A : Type 0} → (Data → Result A Fault) → Data → Result (List A) Fault
list_in f d = items_in d >>= each f
