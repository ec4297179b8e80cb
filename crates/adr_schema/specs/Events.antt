-- What a JSON value is as the body of an event. The first fault wins, in the order that stands here.
use Rattle.std.specs.Prelude.{ℕ, ℤ, nat_le, List, [], ◌∷◌, ◌++◌, length, codes, filter, Bool, false, Option, Some, None, option_and_then, unwrap_or, Result, Ok, Err, if◌then◌else◌}
use Rattle.std.specs.List.{list_any, flat_map}
use Rattle.std.specs.Str.{bytes_eq}
use Rattle.serde_json.specs.Data.{Data}
use Rattle.adr_text.specs.Refusals.{◌>>=◌}
use Rattle.adr_text.specs.Fields.{member_of, text_of, items_in, objects_in, required, optional, each, id_in, name_in, i32_in}
use Rattle.adr_text.specs.declared.fault.Fault.{Fault}
use Rattle.adr_text.specs.declared.fault.Fault.TheVariants.{NotOne, Repeated, BadShape}
use Rattle.adr_objects.specs.declared.interval.Interval.{Interval}
use Rattle.adr_objects.specs.declared.body.EventBody.{EventBody}
use Rattle.adr_objects.specs.Limits.{most_intervals}
use Rattle.adr_objects.specs.Intervals.{has_id}
use Rattle.adr_objects.specs.NameSets.{name_set_of}
use Rattle.adr_objects.specs.Fields.{text_in, priority_in, setpoint_in, period_in}

-- ---- payloads and targets: objects with a type

-- a member that is a text
abbrev pub text_at : List ℕ → Data → Result (List ℕ) Fault
text_at name d = required (member_of name d) text_of

-- the member `type`, which has to be there and be a text
abbrev pub type_in : Data → Result (List ℕ) Fault
type_in d = text_at (codes "type") d

-- whether the object's type is that text
abbrev pub is_of_type : List ℕ → Data → Bool
is_of_type text d = is_type_in text (type_in d)
  where
    is_type_in : List ℕ → Result (List ℕ) Fault → Bool
    is_type_in text (Ok t) = bytes_eq t text
    is_type_in text (Err e) = false

-- all of them, where each of these has a type
abbrev pub typed_as : List Data → List Data → Result (List Data) Fault
typed_as all ds = each type_in ds >>= λ types. Ok all

-- a list of objects with a type each
unfoldable pub typed_in : Data → Result (List Data) Fault
typed_in d = objects_in d >>= λ ds. typed_as ds ds

-- the values of a payload or a target
abbrev pub values_in : Data → Result (List Data) Fault
values_in d = required (member_of (codes "values") d) items_in

-- exactly one value
abbrev pub one_of : List Data → Result Data Fault
one_of [] = Err NotOne
one_of (d ∷ []) = Ok d
one_of (d ∷ e ∷ ds) = Err NotOne

-- none, or exactly one
abbrev pub only_one : List Data → Result (Option Data) Fault
only_one [] = Ok None
only_one (d ∷ []) = Ok (Some d)
only_one (d ∷ e ∷ ds) = Err NotOne

-- the one value of a payload
abbrev pub value_of : Data → Result Data Fault
value_of d = values_in d >>= one_of

abbrev pub value_where : Option Data → Result (Option Data) Fault
value_where None = Ok None
value_where (Some d) = value_of d >>= λ value. Ok (Some value)

-- the one value of the only payload of that type, where there is one
unfoldable pub only_value : List ℕ → Data → Result (Option Data) Fault
only_value type d = do
  payloads ← typed_in d
  only ← only_one (filter (is_of_type type) payloads)
  value_where only

-- the setpoint that payloads say
unfoldable pub payloads_in : Data → Result (Option ℤ) Fault
payloads_in d = only_value (codes "DISPATCH_SETPOINT") d >>= λ value. optional value setpoint_in

-- the type of the target is `RESOURCE_NAME`
abbrev pub resource_target : Data → Bool
resource_target d = is_of_type (codes "RESOURCE_NAME") d

-- the names of one target
abbrev pub names_of_target : Data → Result (List (List ℕ)) Fault
names_of_target d = values_in d >>= each name_in

abbrev pub joined : List (List (List ℕ)) → List (List ℕ)
joined lists = flat_map (λ names. names) lists

-- the names of these targets, in the order listed
abbrev pub all_names : List Data → Result (List (List ℕ)) Fault
all_names ds = each names_of_target ds >>= λ lists. Ok (joined lists)

-- the set of the names that these targets list
abbrev pub names_of_targets : List Data → Result (Option (List (List ℕ))) Fault
names_of_targets ds = all_names ds >>= name_set_of >>= λ set. Ok (Some set)

-- the names of the resource targets, where there is such a target
abbrev pub names_among : List Data → Result (Option (List (List ℕ))) Fault
names_among targets =
    if list_any resource_target targets then names_of_targets (filter resource_target targets) else Ok None

-- the set of the names that the resource targets list, where there is such a target, of a list of objects with a type
-- each
unfoldable pub targets_in : Data → Result (Option (List (List ℕ))) Fault
targets_in d = typed_in d >>= names_among

-- ---- intervals

-- an id that is not used before
abbrev pub fresh_id : List Interval → Data → Result ℤ Fault
fresh_id before d = required (member_of (codes "id") d) i32_in >>= λ id. if has_id (λ i. i.id) id before then Err Repeated else Ok id

-- one interval, where those before it are known
unfoldable pub interval_in : List Interval → Data → Result Interval Fault
interval_in before d = do
  id ← fresh_id before d
  period ← optional (member_of (codes "intervalPeriod") d) period_in
  payloads ← optional (member_of (codes "payloads") d) payloads_in
  Ok (record { id = id; period = period; setpoint = option_and_then (λ s. s) payloads })

-- each interval in turn
abbrev pub intervals_from : List Interval → List Data → Result (List Interval) Fault
intervals_from before [] = Ok []
intervals_from before (d ∷ ds) = do
  i ← interval_in before d
  is ← intervals_from (before ++ i ∷ []) ds
  Ok (i ∷ is)

-- at most 1,000 objects, read as intervals in turn, where no id is used twice
unfoldable pub intervals_in : Data → Result (List Interval) Fault
intervals_in d = do
  ds ← objects_in d
  if nat_le (length ds) most_intervals then intervals_from [] ds else Err BadShape

-- ---- the body

-- the body of an event: `programID`, which has to be there, `eventName`, `priority`, `intervalPeriod`, `targets` and
-- `intervals` are read in this order, and the first fault gives the reason
unfoldable pub event_in : Data → Result EventBody Fault
event_in d = do
  program ← required (member_of (codes "programID") d) id_in
  name ← optional (member_of (codes "eventName") d) (text_in 256)
  priority ← optional (member_of (codes "priority") d) priority_in
  period ← optional (member_of (codes "intervalPeriod") d) period_in
  targets ← optional (member_of (codes "targets") d) targets_in
  intervals ← optional (member_of (codes "intervals") d) intervals_in
  Ok (record { program = program; name = name; priority = priority; period = period; resource_names = option_and_then (λ t. t) targets; intervals = unwrap_or intervals [] })
