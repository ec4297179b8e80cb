-- Lists of at least and of at most so many items.
use Rattle.std.specs.Prelude.{ℕ, List, length, ◌&&◌, nat_le, Result, Ok, Err, if◌then◌else◌}
use Rattle.serde_json.specs.Data.{Data}
use Rattle.adr_text.specs.Refusals.{◌>>=◌}
use Rattle.adr_text.specs.Fields.{items_in, each}
use Rattle.adr_text.specs.declared.fault.Fault.{Fault}
use Rattle.adr_text.specs.declared.fault.Fault.TheVariants.{BadShape}

-- the items, where they are neither too few nor too many
abbrev pub bounded : {A : Type 0} → ℕ → ℕ → List A → Result (List A) Fault
bounded least most items = if nat_le least (length items) && nat_le (length items) most then Ok items else Err BadShape

-- a list of so many items, each read in turn
unfoldable pub bounded_in : {A : Type 0} → ℕ → ℕ → (Data → Result A Fault) → Data → Result (List A) Fault
bounded_in least most reading d = items_in d >>= each reading >>= bounded least most
