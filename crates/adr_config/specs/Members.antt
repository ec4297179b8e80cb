-- Members of JSON objects that are counts.
use Rattle.std.specs.Prelude.{ℕ, ℤ, pos, negsuc, Result, Ok, Err}
use Rattle.serde_json.specs.Data.{Data}
use Rattle.adr_text.specs.Fields.{whole_from, whole_of}
use Rattle.adr_text.specs.Refusals.{◌>>=◌, or_else}
use Rattle.adr_text.specs.declared.fault.Fault.{Fault}
use Rattle.adr_text.specs.declared.fault.Fault.TheVariants.{OutOfRange}
use Rattle.adr_state.specs.Within.{where_within}

abbrev pub count_from : ℤ → Result ℕ Fault
count_from (pos n) = Ok n
count_from (negsuc n) = Err OutOfRange

-- a whole number, 0 or more
unfoldable pub count_in : Data → Result ℕ Fault
count_in d = whole_from (whole_of d) >>= count_from

-- a whole number from 1 up to a largest
unfoldable pub limit_in : ℕ → Data → Result ℕ Fault
limit_in most d = count_in d >>= λ n. or_else OutOfRange (where_within most n)
