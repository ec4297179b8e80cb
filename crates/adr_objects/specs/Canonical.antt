-- The canonical text of a body: two versions of one moment are ordered by it.
use Rattle.std.specs.Prelude.{ℕ, pos, List, [], ◌∷◌, map, codes, Option, Some, option_map}
use Rattle.serde_json.specs.Data.{Data, string}
use Rattle.serde_json.specs.Written.{compact_text}
use Rattle.adr_text.specs.Objects.{object_of, array_of, whole_data}
use Rattle.adr_objects.specs.declared.interval.Period.{Period}
use Rattle.adr_objects.specs.declared.interval.Interval.{Interval}
use Rattle.adr_objects.specs.declared.body.EventBody.{EventBody}
use Rattle.adr_objects.specs.declared.body.Body.{Body}
use Rattle.adr_objects.specs.declared.body.Body.TheVariants.{Program, Event, Opaque}
use Rattle.adr_objects.specs.Reasons.{reason_number}

-- a number from 0 on, as a JSON number without point or exponent
abbrev pub natural_data : ℕ → Data
natural_data n = whole_data (pos n)

-- the array of these texts, in their order
abbrev pub texts_data : List (List ℕ) → Data
texts_data texts = array_of (map string texts)

abbrev pub period_fields : Period → List (List ℕ × Option Data)
period_fields p =
    (codes "duration", option_map string p.duration)
    ∷ (codes "randomizeStart", option_map string p.randomize_start)
    ∷ (codes "start", Some (string p.start))
    ∷ []

-- `duration`, `randomizeStart` and `start`, of which the first two may be absent
unfoldable pub period_data : Period → Data
period_data p = object_of (period_fields p)

abbrev pub interval_fields : Interval → List (List ℕ × Option Data)
interval_fields i =
    (codes "id", Some (whole_data i.id))
    ∷ (codes "intervalPeriod", option_map period_data i.period)
    ∷ (codes "setpoint", option_map whole_data i.setpoint)
    ∷ []

-- `id`, `intervalPeriod` and `setpoint`, of which the last two may be absent
unfoldable pub interval_data : Interval → Data
interval_data i = object_of (interval_fields i)

abbrev pub event_fields : EventBody → List (List ℕ × Option Data)
event_fields e =
    (codes "eventName", option_map string e.name)
    ∷ (codes "intervalPeriod", option_map period_data e.period)
    ∷ (codes "intervals", Some (array_of (map interval_data e.intervals)))
    ∷ (codes "priority", option_map natural_data e.priority)
    ∷ (codes "programID", Some (string e.program))
    ∷ (codes "resourceNames", option_map texts_data e.resource_names)
    ∷ []

-- `eventName`, `intervalPeriod`, `intervals`, `priority`, `programID` and `resourceNames`, of which all but
-- `intervals` and `programID` may be absent
unfoldable pub event_data : EventBody → Data
event_data e = object_of (event_fields e)

-- an object of one member: `program` with the name, `event` with the event, or `opaque` with the reason's number
unfoldable pub body_data : Body → Data
body_data (Program name) = object_of ((codes "program", Some (string name)) ∷ [])
body_data (Event event) = object_of ((codes "event", Some (event_data event)) ∷ [])
body_data (Opaque reason) = object_of ((codes "opaque", Some (natural_data (reason_number reason))) ∷ [])

-- the text by which two versions of one moment are ordered: members in byte order, names ascending by bytes, no space
unfoldable pub canonical_text : Body → List ℕ
canonical_text b = compact_text (body_data b)
