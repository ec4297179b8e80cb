-- What JSON values are as the fields of an event, or their fault.
use Rattle.std.specs.Prelude.{ℕ, ℤ, List, codes, Result, Ok}
use Rattle.serde_json.specs.Data.{Data}
use Rattle.adr_text.specs.Refusals.{◌>>=◌}
use Rattle.adr_text.specs.Fields.{whole_of, member_of, text_of, required, optional, whole_from}
use Rattle.adr_text.specs.declared.fault.Fault.{Fault}
use Rattle.adr_objects.specs.declared.interval.Period.{Period}
use Rattle.adr_objects.specs.Limits.{text_within, setpoint_at, priority_at}

-- a text of at most so many bytes, else the wrong shape
unfoldable pub text_in : ℕ → Data → Result (List ℕ) Fault
text_in most d = text_of d >>= text_within most

-- a whole number from 0 to 2^31 - 1, or its fault
unfoldable pub priority_in : Data → Result ℕ Fault
priority_in d = whole_from (whole_of d) >>= priority_at

-- a whole number of a magnitude of at most 10^12, or its fault
unfoldable pub setpoint_in : Data → Result ℤ Fault
setpoint_in d = whole_from (whole_of d) >>= setpoint_at

-- a start, and a duration and a randomized start that may be absent, each a text of at most 64 bytes
unfoldable pub period_in : Data → Result Period Fault
period_in d = do
  start ← required (member_of (codes "start") d) (text_in 64)
  duration ← optional (member_of (codes "duration") d) (text_in 64)
  randomize_start ← optional (member_of (codes "randomizeStart") d) (text_in 64)
  Ok (record { start = start; duration = duration; randomize_start = randomize_start })
