-- What bytes are.
use Rattle.std.specs.Prelude.{ℕ, List, Result}
use Rattle.serde_json.specs.Data.{Data}
use Rattle.adr_text.specs.Refusals.{◌>>=◌}
use Rattle.adr_text.specs.Fields.{value_in}
use Rattle.adr_text.specs.declared.fault.Fault.{Fault}

-- what the bytes are, as JSON that is read so
abbrev pub bytes_as : {A : Type 0} → (Data → Result A Fault) → List ℕ → Result A Fault
bytes_as reading bytes = value_in bytes >>= reading
