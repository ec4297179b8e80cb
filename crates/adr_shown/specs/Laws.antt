-- That what is kept has the members of what is written, and that the texts read back, and so differ.
use Rattle.std.specs.Prelude.{◌≡◌, ℕ, Bool, not, ◌&&◌, List, filter, codes, Option, IsTrue, Ok}
use Rattle.std.specs.Str.{bytes_eq}
use Rattle.serde_json.specs.Data.{Data}
use Rattle.adr_text.specs.Ids.{is_id}
use Rattle.adr_objects.specs.declared.shown.ShownEvent.{ShownEvent}
use Rattle.adr_objects.specs.declared.shown.EventObject.{EventObject}
use Rattle.adr_objects.specs.declared.report.Rollup.{Rollup}
use Rattle.adr_objects.specs.declared.report.RollupObject.{RollupObject}
use Rattle.adr_written.specs.Objects.{event_object_fields}
use Rattle.adr_written.specs.WrittenReports.{rollup_object_fields}
use Rattle.adr_shown.specs.ShownTexts.{shown_fields, shown_text}
use Rattle.adr_shown.specs.RollupTexts.{rollup_fields, kept_rollup_text}
use Rattle.adr_shown.specs.ReadShown.{shown_of}
use Rattle.adr_shown.specs.ReadRollups.{kept_rollup_of}
use Rattle.adr_shown.specs.Types.{IsShown, IsRollup}

-- a member of a written event that is kept: neither its id nor one of its stamps
abbrev pub is_kept_of_event : List ℕ × Option Data → Bool
is_kept_of_event field = not (bytes_eq field.0 (codes "createdDateTime")) && not (bytes_eq field.0 (codes "id")) && not (bytes_eq field.0 (codes "modificationDateTime"))

-- a member of a written roll-up that is kept: not the name that it is told under
abbrev pub is_kept_of_rollup : List ℕ × Option Data → Bool
is_kept_of_rollup field = not (bytes_eq field.0 (codes "clientName"))

-- what is kept of a shown event has the members of the event as it is written, less its id and its stamps
abbrev pub ShownAsWritten : Type 0
ShownAsWritten = (e : EventObject) → shown_fields e.shown ≡ filter is_kept_of_event (event_object_fields e)

-- what is kept of a roll-up has the members of the roll-up as it is written, less the name that it is told under
abbrev pub RollupsAsWritten : Type 0
RollupsAsWritten = (r : RollupObject) → rollup_fields r.event r.rollup ≡ filter is_kept_of_rollup (rollup_object_fields r)

-- the text of each shown event that the types admit reads back as that event
abbrev pub ShownTextsReadBack : Type 0
ShownTextsReadBack = (e : ShownEvent) → IsShown e → shown_of (shown_text e) ≡ Ok e

-- two shown events that the types admit, of one text, are one
abbrev pub ShownTextsDiffer : Type 0
ShownTextsDiffer = (a b : ShownEvent) → IsShown a → IsShown b → shown_text a ≡ shown_text b → a ≡ b

-- the text of each roll-up that the types admit, by the upstream event's id, reads back as that id and that roll-up
abbrev pub RollupTextsReadBack : Type 0
RollupTextsReadBack = (id : List ℕ) (r : Rollup) → IsTrue (is_id id) → IsRollup r → kept_rollup_of (kept_rollup_text id r) ≡ Ok (id, r)

-- two roll-ups that the types admit, of one text, are one, and of one upstream event
abbrev pub RollupTextsDiffer : Type 0
RollupTextsDiffer =
    (id other : List ℕ) (a b : Rollup) → IsTrue (is_id id) → IsTrue (is_id other) → IsRollup a → IsRollup b → kept_rollup_text id a ≡ kept_rollup_text other b → (id ≡ other) × (a ≡ b)
