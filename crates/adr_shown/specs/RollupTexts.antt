-- The text that tables keep of a roll-up: the roll-up as it is written, without the name that it is told under.
use Rattle.std.specs.Prelude.{ℕ, List, [], ◌∷◌, codes, Option, Some}
use Rattle.serde_json.specs.Data.{Data, string}
use Rattle.serde_json.specs.Written.{compact_text}
use Rattle.adr_text.specs.Objects.{object_of}
use Rattle.adr_objects.specs.declared.report.Rollup.{Rollup}
use Rattle.adr_written.specs.WrittenReports.{rollup_resources}

-- eventID is the id of the upstream event
abbrev pub rollup_fields : List ℕ → Rollup → List (List ℕ × Option Data)
rollup_fields id r =
    (codes "eventID", Some (string id))
    ∷ (codes "programID", Some (string r.program))
    ∷ (codes "resources", Some (rollup_resources r))
    ∷ []

-- the roll-up of an upstream event, by the event's id: `eventID`, `programID` and `resources`, which is a roll-up as
-- it is written, less `clientName`
unfoldable pub rollup_data : List ℕ → Rollup → Data
rollup_data id r = object_of (rollup_fields id r)

-- the roll-up of an upstream event, by the event's id, as compact JSON, without the name that it is told under
unfoldable pub kept_rollup_text : List ℕ → Rollup → List ℕ
kept_rollup_text id r = compact_text (rollup_data id r)
