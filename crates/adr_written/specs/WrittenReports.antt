-- Reports and roll-ups as they are written.
use Rattle.std.specs.Prelude.{ℕ, List, [], ◌∷◌, ◌++◌, ◌==◌, length, map, codes, Option, Some, option_map, if◌then◌else◌}
use Rattle.serde_json.specs.Data.{Data, string}
use Rattle.serde_json.specs.Written.{compact_text}
use Rattle.adr_text.specs.Objects.{object_of, array_of, whole_data}
use Rattle.adr_objects.specs.declared.report.UsageInterval.{UsageInterval}
use Rattle.adr_objects.specs.declared.report.ReportObject.{ReportObject}
use Rattle.adr_objects.specs.declared.report.RollupInterval.{RollupInterval}
use Rattle.adr_objects.specs.declared.report.Rollup.{Rollup}
use Rattle.adr_objects.specs.declared.report.RollupObject.{RollupObject}
use Rattle.adr_written.specs.Ids.{report_id, shown_id}
use Rattle.adr_written.specs.Objects.{moment_data, values_data, payloads_data}

-- a list of one resource: its intervals and its name
abbrev pub resource_fields : Data → List ℕ → List (List ℕ × Option Data)
resource_fields intervals name =
    (codes "intervals", Some intervals)
    ∷ (codes "resourceName", Some (string name))
    ∷ []

-- an array of one resource: `intervals` and `resourceName`
unfoldable pub resources_data : Data → List ℕ → Data
resources_data intervals name = array_of (object_of (resource_fields intervals name) ∷ [])

-- ---- a report

abbrev pub usage_interval_fields : UsageInterval → List (List ℕ × Option Data)
usage_interval_fields i =
    (codes "id", Some (whole_data i.id))
    ∷ (codes "payloads", Some (payloads_data (codes "USAGE") (option_map whole_data i.usage)))
    ∷ []

-- `id` and `payloads`: the number that is reported as `USAGE`, where there is one
unfoldable pub usage_interval_data : UsageInterval → Data
usage_interval_data i = object_of (usage_interval_fields i)

-- `clientName`, `createdDateTime`, `eventID` and `id`, where `eventID` is the id of the event as it is shown to the
-- resource
abbrev pub report_object_head : ReportObject → List (List ℕ × Option Data)
report_object_head r =
    (codes "clientName", Some (string r.body.head.client))
    ∷ (codes "createdDateTime", Some (moment_data r.stamps.created))
    ∷ (codes "eventID", Some (string (shown_id r.body.head.resource r.body.head.event)))
    ∷ (codes "id", Some (string (report_id r.number)))
    ∷ []

-- `modificationDateTime`, `objectType`, `programID`, `reportName`, which may be absent, and `resources`
abbrev pub report_object_tail : ReportObject → List (List ℕ × Option Data)
report_object_tail r =
    (codes "modificationDateTime", Some (moment_data r.stamps.modified))
    ∷ (codes "objectType", Some (string (codes "REPORT")))
    ∷ (codes "programID", Some (string r.body.head.program))
    ∷ (codes "reportName", option_map string r.body.head.name)
    ∷ (codes "resources", Some (resources_data (array_of (map usage_interval_data r.body.intervals)) r.body.head.resource_name))
    ∷ []

abbrev pub report_object_fields : ReportObject → List (List ℕ × Option Data)
report_object_fields r = report_object_head r ++ report_object_tail r

-- a report: the members of `report_object_head` and of `report_object_tail`
unfoldable pub report_object_data : ReportObject → Data
report_object_data r = object_of (report_object_fields r)

-- ---- a roll-up

-- the names of those that are missing, where some are, as a payload `MISSING_RESOURCES`
abbrev pub missing_data : List (List ℕ) → List Data
missing_data names = if length names == 0 then [] else values_data (codes "MISSING_RESOURCES") (map string names) ∷ []

-- the sum of an interval, as a payload `USAGE`
abbrev pub sum_data : RollupInterval → Data
sum_data i = values_data (codes "USAGE") (whole_data i.sum ∷ [])

abbrev pub rollup_interval_fields : RollupInterval → List (List ℕ × Option Data)
rollup_interval_fields i =
    (codes "id", Some (whole_data i.id))
    ∷ (codes "payloads", Some (array_of (sum_data i ∷ missing_data i.missing)))
    ∷ []

-- `id` and `payloads`: the sum, and then the names of those that are missing, where some are
unfoldable pub rollup_interval_data : RollupInterval → Data
rollup_interval_data i = object_of (rollup_interval_fields i)

-- the one resource `AGGREGATED_REPORT`, with the intervals of the roll-up
abbrev pub rollup_resources : Rollup → Data
rollup_resources r = resources_data (array_of (map rollup_interval_data r.intervals)) (codes "AGGREGATED_REPORT")

-- eventID is the id of the upstream event
abbrev pub rollup_object_fields : RollupObject → List (List ℕ × Option Data)
rollup_object_fields r =
    (codes "clientName", Some (string r.client))
    ∷ (codes "eventID", Some (string r.event))
    ∷ (codes "programID", Some (string r.rollup.program))
    ∷ (codes "resources", Some (rollup_resources r.rollup))
    ∷ []

-- a roll-up: `clientName`, `eventID`, `programID` and `resources`
unfoldable pub rollup_object_data : RollupObject → Data
rollup_object_data r = object_of (rollup_object_fields r)

-- ---- the texts of them

-- a report, under the id of the event as it is shown to the resource, as compact JSON
unfoldable pub report_text : ReportObject → List ℕ
report_text r = compact_text (report_object_data r)

-- a roll-up, under the id of the upstream event, as compact JSON: in each interval the sum and then the names of
-- those that are missing, where some are
unfoldable pub rollup_text : RollupObject → List ℕ
rollup_text r = compact_text (rollup_object_data r)
