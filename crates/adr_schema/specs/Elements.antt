-- What an element of a page is: which version, and else the first fault with its place.
use Rattle.std.specs.Prelude.{◌≡◌, ℕ, List, codes, Bool, true, false, Option, Some, None, Result, Ok, Err}
use Rattle.std.specs.Result.{result_ok}
use Rattle.serde_json.specs.Data.{Data}
use Rattle.adr_text.specs.Refusals.{◌>>=◌}
use Rattle.adr_text.specs.declared.fault.Fault.{Fault}
use Rattle.adr_objects.specs.declared.kind.Kind.{Kind}
use Rattle.adr_objects.specs.declared.kind.Kind.TheVariants as kind
use Rattle.adr_objects.specs.declared.body.Body.{Body}
use Rattle.adr_objects.specs.declared.body.Body.TheVariants as body
use Rattle.adr_objects.specs.declared.body.Found.{Found}
use Rattle.adr_objects.specs.declared.body.Reason.{Reason}
use Rattle.adr_objects.specs.declared.body.Reason.TheVariants as reason
use Rattle.adr_objects.specs.Limits.{text_within}
use Rattle.adr_schema.specs.Events.{text_at}
use Rattle.adr_schema.specs.Pages.{reason_of}
use Rattle.adr_schema.specs.declared.element.Element.{Element}
use Rattle.adr_schema.specs.declared.element.Element.TheVariants.{Read, Unread, Skipped}
use Rattle.adr_schema.specs.declared.place.Place.{Place}
use Rattle.adr_schema.specs.Places.{Located}
use Rattle.adr_schema.specs.Flaws.{fault_of, located}
use Rattle.adr_schema.specs.FirstFaults.{said_in, said_place, version_in, version_place}

-- ---- which version

-- the body is kept unread
abbrev pub is_opaque : Body → Bool
is_opaque (body.Program name) = false
is_opaque (body.Event event) = false
is_opaque (body.Opaque reason) = true

-- an element is read, kept unread or skipped as a reading of its version says
abbrev pub IsElement : Element → Result Found Fault → Type 0
IsElement (Read found) version = (version ≡ Ok found) × (is_opaque found.body ≡ false)
IsElement (Unread found defect) version = (version ≡ Ok found) × (is_opaque found.body ≡ true)
IsElement (Skipped defect) version = version ≡ Err (fault_of defect.flaw)

-- the version that an element is
abbrev pub version_of : Element → Result Found Fault
version_of (Read found) = Ok found
version_of (Unread found defect) = Ok found
version_of (Skipped defect) = Err (fault_of defect.flaw)

-- ---- and which fault

-- the fault of a reading at that place, or that of what is read behind it
abbrev pub fault_at : {A : Type 0} → Place → Result A Fault → Option Located → Option Located
fault_at place (Ok x) later = later
fault_at place (Err fault) later = Some (place, fault)

-- the first fault of an element: it is skipped for that of its version, and unread for that of its body
abbrev pub fault_in : Kind → Data → Option Located
fault_in kind d = fault_at (version_place d) (version_in d) (fault_at (said_place kind d) (said_in kind d) None)

-- the fault that is told
abbrev pub fault_told : Element → Option Located
fault_told (Read found) = None
fault_told (Unread found defect) = Some (located defect)
fault_told (Skipped defect) = Some (located defect)

-- the reason that is kept of a fault of a body
abbrev pub reason_kept : Kind → Fault → Reason
reason_kept kind.Program fault = reason.BadShape
reason_kept kind.Event fault = reason_of fault

-- the id of an element, where it is a text of at most 100 bytes
abbrev pub id_told : Data → Option (List ℕ)
id_told d = result_ok (text_at (codes "id") d >>= text_within 100)
