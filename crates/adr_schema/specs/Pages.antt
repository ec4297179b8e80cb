-- Pages of upstream objects: which elements are versions, and what each says.
use Rattle.std.specs.Prelude.{ℕ, List, codes, count_by, is_err, Result, Ok, Err}
use Rattle.std.specs.List.{filter_map}
use Rattle.std.specs.Result.{result_ok}
use Rattle.serde_json.specs.Data.{Data}
use Rattle.adr_text.specs.Refusals.{◌>>=◌}
use Rattle.adr_text.specs.Faults.{as_refusal}
use Rattle.adr_text.specs.Fields.{member_of, items_in, required, name_in, moment_in}
use Rattle.adr_text.specs.declared.fault.Fault.{Fault}
use Rattle.adr_text.specs.declared.fault.Fault.TheVariants as fault
use Rattle.adr_text.specs.declared.refusal.Refusal.{Refusal}
use Rattle.adr_objects.specs.declared.kind.Kind.{Kind}
use Rattle.adr_objects.specs.declared.kind.Kind.TheVariants as kind
use Rattle.adr_objects.specs.declared.body.EventBody.{EventBody}
use Rattle.adr_objects.specs.declared.body.Body.{Body}
use Rattle.adr_objects.specs.declared.body.Body.TheVariants.{Program, Event, Opaque}
use Rattle.adr_objects.specs.declared.body.Reason.{Reason}
use Rattle.adr_objects.specs.declared.body.Reason.TheVariants as reason
use Rattle.adr_objects.specs.declared.body.Found.{Found}
use Rattle.adr_schema.specs.Bytes.{bytes_as}
use Rattle.adr_objects.specs.Limits.{upstream_id_of}
use Rattle.adr_schema.specs.Events.{text_at, event_in}

-- a program with a fault has the wrong shape, whatever it is
abbrev pub program_body : Result (List ℕ) Fault → Body
program_body (Ok name) = Program name
program_body (Err e) = Opaque reason.BadShape

-- why a body is kept unread: the reason that a fault is. Want of memory is none: a body is read with memory or not at
-- all.
abbrev pub reason_of : Fault → Reason
reason_of fault.OutOfMemory = reason.BadShape
reason_of fault.Fraction = reason.Fraction
reason_of fault.NotOne = reason.NotOne
reason_of fault.Repeated = reason.Repeated
reason_of fault.OutOfRange = reason.OutOfRange
reason_of fault.BadShape = reason.BadShape

-- an event, or a body that is kept unread with the reason that its fault is
abbrev pub event_body : Result EventBody Fault → Body
event_body (Ok event) = Event event
event_body (Err e) = Opaque (reason_of e)

-- what an object says
unfoldable pub body_in : Kind → Data → Body
body_in kind.Program d = program_body (required (member_of (codes "programName") d) name_in)
body_in kind.Event d = event_body (event_in d)

-- the id of an upstream object
abbrev pub upstream_id_in : Data → Result (List ℕ) Fault
upstream_id_in d = text_at (codes "id") d >>= upstream_id_of

-- the version that an element is: an object with an object id of at most 100 bytes and a moment, whatever it says
unfoldable pub found_in : Kind → Data → Result Found Fault
found_in kind d = do
  id ← upstream_id_in d
  moment ← required (member_of (codes "modificationDateTime") d) moment_in
  Ok (record { kind = kind; id = id; moment = moment; body = body_in kind d })

-- the versions among the elements
abbrev pub founds : Kind → List Data → List Found
founds kind ds = filter_map (λ d. result_ok (found_in kind d)) ds

-- how many elements are none
abbrev pub skipped : Kind → List Data → ℕ
skipped kind ds = count_by (λ d. is_err (found_in kind d)) ds

-- both, of all elements
abbrev pub founds_and_skipped : Kind → List Data → List Found × ℕ
founds_and_skipped kind ds = (founds kind ds, skipped kind ds)

-- the versions of a page, and how many of its elements are none
abbrev pub page_in : Kind → Data → Result (List Found × ℕ) Fault
page_in kind d = items_in d >>= λ ds. Ok (founds_and_skipped kind ds)

-- the versions on the page that the bytes are and how many of its elements are none, or the refusal of what is no
-- JSON array
unfoldable pub page_of : Kind → List ℕ → Result (List Found × ℕ) Refusal
page_of kind bytes = as_refusal (bytes_as (page_in kind) bytes)

-- the one version that the bytes are, or the refusal of what a page would skip or of what is no JSON
unfoldable pub version_of : Kind → List ℕ → Result Found Refusal
version_of kind bytes = as_refusal (bytes_as (found_in kind) bytes)
