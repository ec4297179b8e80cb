-- An element is read, kept unread or skipped as its version says.
use Rattle.std.proofs.Common.{◌≡◌, ℕ, List, codes, Result, Ok, Err, refl}
use Rattle.serde_json.specs.Data.{Data}
use Rattle.adr_text.specs.Refusals.{◌>>=◌}
use Rattle.adr_text.specs.Faults.{Finds}
use Rattle.adr_text.specs.Fields.{member_of, required, name_in, moment_in}
use Rattle.adr_text.specs.declared.fault.Fault.{Fault}
use Rattle.adr_objects.specs.declared.kind.Kind.{Kind}
use Rattle.adr_objects.specs.declared.kind.Kind.TheVariants as kind
use Rattle.adr_objects.specs.declared.body.Body.{Body}
use Rattle.adr_objects.specs.declared.body.Body.TheVariants as body
use Rattle.adr_objects.specs.declared.body.EventBody.{EventBody}
use Rattle.adr_objects.specs.declared.body.Found.{Found}
use Rattle.adr_schema.specs.Pages.{program_body, event_body, body_in, upstream_id_in, found_in}
use Rattle.adr_schema.specs.declared.element.Element.{Element}
use Rattle.adr_schema.specs.declared.element.Element.TheVariants.{Read, Unread, Skipped}
use Rattle.adr_schema.specs.FirstFaults.{said_in, version_in}
use Rattle.adr_schema.specs.Events.{event_in}
use Rattle.adr_schema.specs.Elements.{IsElement, version_of, reason_kept}
use Rattle.adr_schema.proofs.Stopping.{lacks_flaw}

-- what a body is read as
abbrev pub kept : Kind → Result Body Fault → Body
kept kind (Ok said) = said
kept kind (Err fault) = body.Opaque (reason_kept kind fault)

-- the version that an element is, by the readings of its parts
abbrev pub version_from : Kind → Result (List ℕ × ℕ) Fault → Result Body Fault → Result Found Fault
version_from kind (Ok v) said = Ok (record { kind = kind; id = v.0; moment = v.1; body = kept kind said })
version_from kind (Err fault) said = Err fault

body_is : (kind : Kind) (d : Data) → body_in kind d ≡ kept kind (said_in kind d)
unfolding body_in
body_is kind.Program d = program (required (member_of (codes "programName") d) name_in)
  where
    program : (r : Result (List ℕ) Fault) → program_body r ≡ kept kind.Program (r >>= λ name. Ok (body.Program name))
    program (Ok name) = refl
    program (Err e) = refl
body_is kind.Event d = event (event_in d)
  where
    event : (r : Result EventBody Fault) → event_body r ≡ kept kind.Event (r >>= λ event. Ok (body.Event event))
    event (Ok e) = refl
    event (Err e) = refl

pub version_is : (kind : Kind) (d : Data) → found_in kind d ≡ version_from kind (version_in d) (said_in kind d)
unfolding found_in version_in
version_is kind d = rw (body_is kind d) (version (upstream_id_in d) (required (member_of (codes "modificationDateTime") d) moment_in))
  where
    version : (id : Result (List ℕ) Fault) (moment : Result ℕ Fault) →
        (id >>= λ id. moment >>= λ moment. Ok (record { kind = kind; id = id; moment = moment; body = kept kind (said_in kind d) }))
        ≡ version_from kind (id >>= λ id. moment >>= λ moment. Ok (id, moment)) (said_in kind d)
    version (Ok id) (Ok moment) = refl
    version (Ok id) (Err e) = refl
    version (Err e) moment = refl

pub element_finds : (element : Element) (version : Result Found Fault) → IsElement element version → Finds (λ (f : Found). f) (version_of element) version
element_finds (Read found) version h = h.0
element_finds (Unread found defect) version h = h.0
element_finds (Skipped defect) version h = (lacks_flaw defect.flaw version).1 h
