-- What is kept for a frozen event, as it is written.
use Rattle.std.specs.Prelude.{ℕ, List, [], ◌∷◌, map, codes, Option, Some}
use Rattle.serde_json.specs.Data.{Data, string}
use Rattle.serde_json.specs.Written.{compact_text}
use Rattle.adr_text.specs.Objects.{object_of, array_of}
use Rattle.adr_objects.specs.declared.shown.FrozenObject.{FrozenObject}
use Rattle.adr_objects.specs.Canonical.{natural_data}
use Rattle.adr_written.specs.Ids.{resource_id}

abbrev pub kept_share_fields : ℕ × ℕ → List (List ℕ × Option Data)
kept_share_fields pair =
    (codes "resourceID", Some (string (resource_id pair.0)))
    ∷ (codes "share", Some (natural_data pair.1))
    ∷ []

-- `resourceID` and `share`: the weight that is kept for a resource
unfoldable pub kept_share_data : ℕ × ℕ → Data
kept_share_data pair = object_of (kept_share_fields pair)

abbrev pub frozen_object_fields : FrozenObject → List (List ℕ × Option Data)
frozen_object_fields f =
    (codes "eventID", Some (string f.event))
    ∷ (codes "shares", Some (array_of (map kept_share_data f.shares)))
    ∷ []

-- `eventID`, which is the id of the upstream event, and `shares`
unfoldable pub frozen_object_data : FrozenObject → Data
frozen_object_data f = object_of (frozen_object_fields f)

-- the weights that are kept for an event, as compact JSON
unfoldable pub frozen_text : FrozenObject → List ℕ
frozen_text f = compact_text (frozen_object_data f)
