-- Which values the fields of objects may have. It names no struct.
use Rattle.std.specs.Prelude.{ℕ, suc, nat_le, ℤ, pos, negsuc, List, length, codes, Bool, not, ◌&&◌, Result, Ok, Err, if◌then◌else◌}
use Rattle.std.specs.Str.{bytes_eq}
use Rattle.adr_text.specs.Ids.{is_id}
use Rattle.adr_text.specs.Names.{is_name}
use Rattle.adr_text.specs.declared.fault.Fault.{Fault}
use Rattle.adr_text.specs.declared.fault.Fault.TheVariants.{OutOfRange, BadShape}

-- a text of at most so many bytes
abbrev pub text_within : ℕ → List ℕ → Result (List ℕ) Fault
text_within most text = if nat_le (length text) most then Ok text else Err BadShape

-- an object id of at most 100 bytes
abbrev pub is_upstream_id : List ℕ → Bool
is_upstream_id text = nat_le (length text) 100 && is_id text

-- the text, where it is an object id of at most 100 bytes, else the wrong shape
abbrev pub upstream_id_of : List ℕ → Result (List ℕ) Fault
upstream_id_of text = if is_upstream_id text then Ok text else Err BadShape

-- a name that stands for one resource: 1 to 128 bytes, but not `AGGREGATED_REPORT`
abbrev pub is_resource_name : List ℕ → Bool
is_resource_name text = not (bytes_eq text (codes "AGGREGATED_REPORT")) && is_name text

-- the text, where it is a name that stands for one resource, else the wrong shape
abbrev pub resource_name_of : List ℕ → Result (List ℕ) Fault
resource_name_of text = if is_resource_name text then Ok text else Err BadShape

-- the largest magnitude of a setpoint: 10^12
abbrev pub most_setpoint : ℕ
most_setpoint = 1_000_000_000_000

-- a magnitude of at most 10^12
abbrev pub is_setpoint : ℤ → Bool
is_setpoint (pos n) = nat_le n most_setpoint
is_setpoint (negsuc n) = nat_le (suc n) most_setpoint

-- the number, where it has a magnitude of at most 10^12, else out of range
abbrev pub setpoint_at : ℤ → Result ℤ Fault
setpoint_at z = if is_setpoint z then Ok z else Err OutOfRange

-- 2^31 - 1
abbrev pub most_priority : ℕ
most_priority = 2147483647

-- the number, where it is from 0 to 2^31 - 1, else out of range
abbrev pub priority_at : ℤ → Result ℕ Fault
priority_at (pos n) = if nat_le n most_priority then Ok n else Err OutOfRange
priority_at (negsuc n) = Err OutOfRange

-- how many intervals an event or a report may have: 1,000
abbrev pub most_intervals : ℕ
most_intervals = 1000

-- how many names the resource targets of an event may list: 10,000
abbrev pub most_names : ℕ
most_names = 10_000
