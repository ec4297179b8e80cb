-- The text that tables keep of a shown event: the event as it is written, without its id and its stamps.
use Rattle.std.specs.Prelude.{ℕ, List, [], ◌∷◌, map, codes, Option, Some, option_map}
use Rattle.serde_json.specs.Data.{Data, string}
use Rattle.serde_json.specs.Written.{compact_text}
use Rattle.adr_text.specs.Objects.{object_of, array_of}
use Rattle.adr_objects.specs.declared.shown.ShownEvent.{ShownEvent}
use Rattle.adr_objects.specs.Canonical.{natural_data, period_data}
use Rattle.adr_written.specs.Objects.{shown_interval_data, targets_data}

abbrev pub shown_fields : ShownEvent → List (List ℕ × Option Data)
shown_fields e =
    (codes "eventName", option_map string e.name)
    ∷ (codes "intervalPeriod", option_map period_data e.period)
    ∷ (codes "intervals", Some (array_of (map shown_interval_data e.intervals)))
    ∷ (codes "objectType", Some (string (codes "EVENT")))
    ∷ (codes "priority", option_map natural_data e.priority)
    ∷ (codes "programID", Some (string e.program))
    ∷ (codes "targets", Some (targets_data e.ven_name e.resource_name))
    ∷ []

-- `eventName`, `intervalPeriod`, `intervals`, `objectType`, `priority`, `programID` and `targets`, of which name,
-- period and priority may be absent: an event as it is written, less `createdDateTime`, `id` and
-- `modificationDateTime`
unfoldable pub shown_data : ShownEvent → Data
shown_data e = object_of (shown_fields e)

-- what a resource is shown of an event, as compact JSON, without its id and its stamps
unfoldable pub shown_text : ShownEvent → List ℕ
shown_text e = compact_text (shown_data e)
