-- Where in an object its first fault is, by the readings of Events and Pages. Where there is no fault, the place means
-- nothing.
use Rattle.std.specs.Prelude.{ℕ, ◌+◌, nat_le, List, [], ◌∷◌, ◌++◌, length, codes, filter, Option, Some, None, Result, Ok, Err, if◌then◌else◌}
use Rattle.serde_json.specs.Data.{Data}
use Rattle.adr_text.specs.Refusals.{◌>>=◌}
use Rattle.adr_text.specs.Fields.{member_of, objects_in, required, optional, id_in, name_in, moment_in}
use Rattle.adr_text.specs.declared.fault.Fault.{Fault}
use Rattle.adr_objects.specs.declared.kind.Kind.{Kind}
use Rattle.adr_objects.specs.declared.kind.Kind.TheVariants as kind
use Rattle.adr_objects.specs.declared.interval.Interval.{Interval}
use Rattle.adr_objects.specs.declared.body.Body.{Body}
use Rattle.adr_objects.specs.declared.body.Body.TheVariants as body
use Rattle.adr_objects.specs.Limits.{most_intervals}
use Rattle.adr_objects.specs.Fields.{text_in, priority_in, period_in}
use Rattle.adr_schema.specs.Events.{type_in, typed_as, typed_in, resource_target, names_of_target, all_names, targets_in, fresh_id, interval_in, event_in}
use Rattle.adr_schema.specs.Pages.{upstream_id_in}
use Rattle.adr_schema.specs.declared.place.Part.TheVariants as part
use Rattle.adr_schema.specs.declared.place.Place.{Place}
use Rattle.adr_schema.specs.Places.{in_object, in_target, in_interval}

-- here, where the reading has a fault, and else where what is read behind it has its first
abbrev pub first_place : {A : Type 0} → Result A Fault → Place → (A → Place) → Place
first_place (Ok x) here later = later x
first_place (Err fault) here later = here

-- where a member has its first, which may be absent
abbrev pub place_in : Option Data → (Data → Place) → Place
place_in None place = in_object part.Id
place_in (Some d) place = place d

-- ---- targets, of which the first has that number

-- the type of one
abbrev pub types_place : ℕ → List Data → Place
types_place number [] = in_object part.Targets
types_place number (d ∷ ds) = first_place (type_in d) (in_target number part.Type) (λ type. types_place (number + 1) ds)

-- the values of one that names resources
abbrev pub names_place : ℕ → List Data → Place
names_place number [] = in_object part.Targets
names_place number (d ∷ ds) =
    if resource_target d then first_place (names_of_target d) (in_target number part.Values) (λ names. names_place (number + 1) ds) else names_place (number + 1) ds

-- the same, or that there are too many names
abbrev pub among_place : List Data → Place
among_place ds = first_place (all_names (filter resource_target ds)) (names_place 0 ds) (λ names. in_object part.Targets)

-- the targets, of which the first has the number 0
unfoldable pub targets_place : Data → Place
targets_place d =
    first_place (objects_in d) (in_object part.Targets) (λ ds. first_place (typed_as ds ds) (types_place 0 ds) among_place)

-- ---- intervals

-- the payloads of the interval of a number
unfoldable pub payloads_place : ℕ → Data → Place
payloads_place number d = first_place (typed_in d) (in_interval number part.Payloads) (λ payloads. in_interval number part.Setpoint)

-- one interval, of which the number is how many are before it
unfoldable pub interval_place : List Interval → Data → Place
interval_place before d =
    first_place (fresh_id before d) (in_interval (length before) part.Id) (λ id.
    first_place (optional (member_of (codes "intervalPeriod") d) period_in) (in_interval (length before) part.IntervalPeriod) (λ period.
    place_in (member_of (codes "payloads") d) (payloads_place (length before))))

-- each in turn
abbrev pub each_place : List Interval → List Data → Place
each_place before [] = in_object part.Intervals
each_place before (d ∷ ds) = first_place (interval_in before d) (interval_place before d) (λ i. each_place (before ++ i ∷ []) ds)

-- the intervals, or that they are too many
unfoldable pub intervals_place : Data → Place
intervals_place d =
    first_place (objects_in d) (in_object part.Intervals) (λ ds. if nat_le (length ds) most_intervals then each_place [] ds else in_object part.Intervals)

-- ---- the object

-- an event
unfoldable pub event_place : Data → Place
event_place d =
    first_place (required (member_of (codes "programID") d) id_in) (in_object part.ProgramId) (λ program.
    first_place (optional (member_of (codes "eventName") d) (text_in 256)) (in_object part.EventName) (λ name.
    first_place (optional (member_of (codes "priority") d) priority_in) (in_object part.Priority) (λ priority.
    first_place (optional (member_of (codes "intervalPeriod") d) period_in) (in_object part.IntervalPeriod) (λ period.
    first_place (optional (member_of (codes "targets") d) targets_in) (place_in (member_of (codes "targets") d) targets_place) (λ targets.
    place_in (member_of (codes "intervals") d) intervals_place)))))

-- what an object says, and where its fault is
abbrev pub said_in : Kind → Data → Result Body Fault
said_in kind.Program d = required (member_of (codes "programName") d) name_in >>= λ name. Ok (body.Program name)
said_in kind.Event d = event_in d >>= λ event. Ok (body.Event event)

abbrev pub said_place : Kind → Data → Place
said_place kind.Program d = in_object part.ProgramName
said_place kind.Event d = event_place d

-- the id and the moment that make an element a version, and where their fault is
unfoldable pub version_in : Data → Result (List ℕ × ℕ) Fault
version_in d = do
  id ← upstream_id_in d
  moment ← required (member_of (codes "modificationDateTime") d) moment_in
  Ok (id, moment)

unfoldable pub version_place : Data → Place
version_place d = first_place (upstream_id_in d) (in_object part.Id) (λ id. in_object part.ModificationDateTime)
