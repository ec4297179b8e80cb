-- Objects as they are written: their members, where an absent one is left out.
use Rattle.std.specs.Prelude.{ℕ, List, [], ◌∷◌, map, codes, Option, Some, None, option_map}
use Rattle.serde_json.specs.Data.{Data, string}
use Rattle.serde_json.specs.Written.{compact_text}
use Rattle.adr_text.specs.Moments.{moment_text}
use Rattle.adr_text.specs.Objects.{object_of, array_of, whole_data}
use Rattle.adr_text.specs.Refusals.{title_of, detail_of, status_of}
use Rattle.adr_text.specs.declared.refusal.Refusal.{Refusal}
use Rattle.adr_objects.specs.declared.shown.ShownInterval.{ShownInterval}
use Rattle.adr_objects.specs.declared.shown.EventObject.{EventObject}
use Rattle.adr_objects.specs.declared.shown.ProgramObject.{ProgramObject}
use Rattle.adr_objects.specs.declared.shown.VenObject.{VenObject}
use Rattle.adr_objects.specs.declared.shown.ResourceObject.{ResourceObject}
use Rattle.adr_objects.specs.declared.shown.ShareObject.{ShareObject}
use Rattle.adr_objects.specs.Canonical.{natural_data, period_data}
use Rattle.adr_written.specs.Ids.{ven_id, resource_id, shown_id}

abbrev pub moment_data : ℕ → Data
moment_data n = string (moment_text n)

-- a payload or a target: a type and its values
abbrev pub values_fields : List ℕ → Data → List (List ℕ × Option Data)
values_fields type values =
    (codes "type", Some (string type))
    ∷ (codes "values", Some values)
    ∷ []

-- a payload or a target: `type`, and `values` as an array
unfoldable pub values_data : List ℕ → List Data → Data
values_data type values = object_of (values_fields type (array_of values))

-- the payloads of an interval: one of that type where there is a value for it, else none
abbrev pub payloads_data : List ℕ → Option Data → Data
payloads_data type None = array_of []
payloads_data type (Some value) = array_of (values_data type (value ∷ []) ∷ [])

abbrev pub shown_interval_fields : ShownInterval → List (List ℕ × Option Data)
shown_interval_fields i =
    (codes "id", Some (whole_data i.id))
    ∷ (codes "intervalPeriod", option_map period_data i.period)
    ∷ (codes "payloads", Some (payloads_data (codes "DISPATCH_SETPOINT") (option_map whole_data i.part)))
    ∷ []

-- `id`, `intervalPeriod`, which may be absent, and `payloads`: the resource's part as `DISPATCH_SETPOINT`, where it
-- has one
unfoldable pub shown_interval_data : ShownInterval → Data
shown_interval_data i = object_of (shown_interval_fields i)

-- whose event it is: the ven's name, then the resource's
abbrev pub targets_data : List ℕ → List ℕ → Data
targets_data ven resource =
    array_of (values_data (codes "VEN_NAME") (string ven ∷ []) ∷ values_data (codes "RESOURCE_NAME") (string resource ∷ []) ∷ [])

abbrev pub event_object_fields : EventObject → List (List ℕ × Option Data)
event_object_fields e =
    (codes "createdDateTime", Some (moment_data e.stamps.created))
    ∷ (codes "eventName", option_map string e.shown.name)
    ∷ (codes "id", Some (string (shown_id e.resource e.event)))
    ∷ (codes "intervalPeriod", option_map period_data e.shown.period)
    ∷ (codes "intervals", Some (array_of (map shown_interval_data e.shown.intervals)))
    ∷ (codes "modificationDateTime", Some (moment_data e.stamps.modified))
    ∷ (codes "objectType", Some (string (codes "EVENT")))
    ∷ (codes "priority", option_map natural_data e.shown.priority)
    ∷ (codes "programID", Some (string e.shown.program))
    ∷ (codes "targets", Some (targets_data e.shown.ven_name e.shown.resource_name))
    ∷ []

-- an event as a resource is shown it: its ten members, of which name, period and priority may be absent
unfoldable pub event_object_data : EventObject → Data
event_object_data e = object_of (event_object_fields e)

abbrev pub program_object_fields : ProgramObject → List (List ℕ × Option Data)
program_object_fields p =
    (codes "createdDateTime", Some (moment_data p.stamps.created))
    ∷ (codes "id", Some (string p.id))
    ∷ (codes "modificationDateTime", Some (moment_data p.stamps.modified))
    ∷ (codes "objectType", Some (string (codes "PROGRAM")))
    ∷ (codes "programName", Some (string p.name))
    ∷ []

-- `createdDateTime`, `id`, `modificationDateTime`, `objectType` and `programName`
unfoldable pub program_object_data : ProgramObject → Data
program_object_data p = object_of (program_object_fields p)

abbrev pub ven_object_fields : VenObject → List (List ℕ × Option Data)
ven_object_fields v =
    (codes "createdDateTime", Some (moment_data v.stamps.created))
    ∷ (codes "id", Some (string (ven_id v.number)))
    ∷ (codes "modificationDateTime", Some (moment_data v.stamps.modified))
    ∷ (codes "objectType", Some (string (codes "VEN")))
    ∷ (codes "venName", Some (string v.name))
    ∷ []

-- `createdDateTime`, `id`, `modificationDateTime`, `objectType` and `venName`
unfoldable pub ven_object_data : VenObject → Data
ven_object_data v = object_of (ven_object_fields v)

abbrev pub resource_object_fields : ResourceObject → List (List ℕ × Option Data)
resource_object_fields r =
    (codes "createdDateTime", Some (moment_data r.stamps.created))
    ∷ (codes "id", Some (string (resource_id r.number)))
    ∷ (codes "modificationDateTime", Some (moment_data r.stamps.modified))
    ∷ (codes "objectType", Some (string (codes "RESOURCE")))
    ∷ (codes "resourceName", Some (string r.name))
    ∷ (codes "venID", Some (string (ven_id r.ven)))
    ∷ []

-- `createdDateTime`, `id`, `modificationDateTime`, `objectType`, `resourceName` and `venID`
unfoldable pub resource_object_data : ResourceObject → Data
resource_object_data r = object_of (resource_object_fields r)

abbrev pub share_object_fields : ShareObject → List (List ℕ × Option Data)
share_object_fields s =
    (codes "programID", Some (string s.program))
    ∷ (codes "resourceID", Some (string (resource_id s.resource)))
    ∷ (codes "share", Some (natural_data s.share))
    ∷ []

-- `programID`, `resourceID` and `share`
unfoldable pub share_object_data : ShareObject → Data
share_object_data s = object_of (share_object_fields s)

-- a problem, in the manner of RFC 7807
abbrev pub problem_fields : Refusal → List (List ℕ × Option Data)
problem_fields r =
    (codes "detail", Some (string (detail_of r)))
    ∷ (codes "status", Some (natural_data (status_of r)))
    ∷ (codes "title", Some (string (title_of r)))
    ∷ []

-- `detail`, `status` and `title` of a refusal
unfoldable pub problem_data : Refusal → Data
problem_data r = object_of (problem_fields r)

-- an event as a resource is shown it, as compact JSON
unfoldable pub event_text : EventObject → List ℕ
event_text e = compact_text (event_object_data e)

-- a program as it is shown, as compact JSON
unfoldable pub program_text : ProgramObject → List ℕ
program_text p = compact_text (program_object_data p)

-- a ven, as compact JSON
unfoldable pub ven_text : VenObject → List ℕ
ven_text v = compact_text (ven_object_data v)

-- a resource with the id of its ven, as compact JSON
unfoldable pub resource_text : ResourceObject → List ℕ
resource_text r = compact_text (resource_object_data r)

-- a resource's share in a program, as compact JSON
unfoldable pub share_text : ShareObject → List ℕ
share_text s = compact_text (share_object_data s)

-- what a refusal says, in the manner of RFC 7807, as compact JSON
unfoldable pub problem_text : Refusal → List ℕ
problem_text r = compact_text (problem_data r)
