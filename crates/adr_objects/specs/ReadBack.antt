-- What a canonical text says: the body that it was written for.
use Rattle.std.specs.Prelude.{ℕ, ℤ, pos, negsuc, nat_le, ◌==◌, List, length, codes, Option, Some, None, Result, Ok, Err, if◌then◌else◌}
use Rattle.serde_json.specs.Data.{Data}
use Rattle.serde_json.specs.Read.{read}
use Rattle.adr_text.specs.Refusals.{◌>>=◌, or_else}
use Rattle.adr_text.specs.Fields.{whole_of, member_of, items_in, required, optional, each, whole_from, id_in, name_in, i32_in}
use Rattle.adr_text.specs.declared.fault.Fault.{Fault}
use Rattle.adr_text.specs.declared.fault.Fault.TheVariants as fault
use Rattle.adr_text.specs.declared.refusal.Refusal.{Refusal}
use Rattle.adr_text.specs.declared.refusal.Refusal.TheVariants as refusal
use Rattle.adr_objects.specs.declared.interval.Interval.{Interval}
use Rattle.adr_objects.specs.declared.body.Reason.{Reason}
use Rattle.adr_objects.specs.declared.body.Reason.TheVariants.{Fraction, NotOne, Repeated, OutOfRange, BadShape}
use Rattle.adr_objects.specs.declared.body.EventBody.{EventBody}
use Rattle.adr_objects.specs.declared.body.Body.{Body}
use Rattle.adr_objects.specs.declared.body.Body.TheVariants.{Program, Event, Opaque}
use Rattle.adr_objects.specs.Limits.{most_intervals}
use Rattle.adr_objects.specs.Intervals.{apart}
use Rattle.adr_objects.specs.NameSets.{name_set_of}
use Rattle.adr_objects.specs.Fields.{text_in, priority_in, setpoint_in, period_in}

-- the reason of that number, from 1 to 5
abbrev pub reason_at : ℤ → Result Reason Fault
reason_at (pos n) =
    if n == 1 then Ok Fraction
    else (if n == 2 then Ok NotOne
    else (if n == 3 then Ok Repeated
    else (if n == 4 then Ok OutOfRange
    else (if n == 5 then Ok BadShape
    else Err fault.OutOfRange))))
reason_at (negsuc n) = Err fault.OutOfRange

-- the reason whose number a value is, from 1 to 5, or the fault
unfoldable pub reason_in : Data → Result Reason Fault
reason_in d = whole_from (whole_of d) >>= reason_at

-- a list of at most 10,000 names, as a set
unfoldable pub names_in : Data → Result (List (List ℕ)) Fault
names_in d = items_in d >>= each name_in >>= name_set_of

-- an interval, in which the setpoint stands by itself
unfoldable pub canonical_interval_in : Data → Result Interval Fault
canonical_interval_in d = do
  id ← required (member_of (codes "id") d) i32_in
  period ← optional (member_of (codes "intervalPeriod") d) period_in
  setpoint ← optional (member_of (codes "setpoint") d) setpoint_in
  Ok (record { id = id; period = period; setpoint = setpoint })

-- at most 1,000 intervals
abbrev pub canonical_intervals_in : Data → Result (List Interval) Fault
canonical_intervals_in d = do
  ds ← items_in d
  if nat_le (length ds) most_intervals then each canonical_interval_in ds >>= apart (λ i. i.id) else Err fault.BadShape

-- an event, whose intervals are always there
unfoldable pub canonical_event_in : Data → Result EventBody Fault
canonical_event_in d = do
  program ← required (member_of (codes "programID") d) id_in
  name ← optional (member_of (codes "eventName") d) (text_in 256)
  priority ← optional (member_of (codes "priority") d) priority_in
  period ← optional (member_of (codes "intervalPeriod") d) period_in
  names ← optional (member_of (codes "resourceNames") d) names_in
  intervals ← required (member_of (codes "intervals") d) canonical_intervals_in
  Ok (record { program = program; name = name; priority = priority; period = period; resource_names = names; intervals = intervals })

-- exactly one of an event, a reason and the name of a program
abbrev pub body_from : Option Data → Option Data → Option Data → Result Body Fault
body_from (Some event) None None = canonical_event_in event >>= λ e. Ok (Event e)
body_from None (Some reason) None = reason_in reason >>= λ r. Ok (Opaque r)
body_from None None (Some name) = name_in name >>= λ n. Ok (Program n)
body_from event reason name = Err fault.BadShape

-- the body that a value is, which has exactly one of `event`, `opaque` and `program`, or the fault
unfoldable pub canonical_in : Data → Result Body Fault
canonical_in d = body_from (member_of (codes "event") d) (member_of (codes "opaque") d) (member_of (codes "program") d)

-- what a text is as JSON; its bytes are UTF-8 by its type
abbrev pub value_of_text : List ℕ → Result Data Fault
value_of_text text = or_else fault.BadShape (read text)

-- the body that a text is
abbrev pub body_of_text : List ℕ → Result Body Fault
body_of_text text = value_of_text text >>= canonical_in

-- whatever its fault is, it has the wrong shape
abbrev pub as_bad_shape : {A : Type 0} → Result A Fault → Result A Refusal
as_bad_shape (Ok x) = Ok x
as_bad_shape (Err e) = Err refusal.BadShape

-- the body whose canonical text it is, and 14 for a text that is read as none
unfoldable pub canonical_of : List ℕ → Result Body Refusal
canonical_of text = as_bad_shape (body_of_text text)
