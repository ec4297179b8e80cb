-- Notifications of the utility: what each tells.
use Rattle.std.specs.Prelude.{ℕ, List, codes, Bool, ◌||◌, Option, Some, None, Result, Ok, Err, if◌then◌else◌}
use Rattle.std.specs.Str.{bytes_eq}
use Rattle.serde_json.specs.Data.{Data}
use Rattle.adr_text.specs.Refusals.{◌>>=◌}
use Rattle.adr_text.specs.Faults.{as_refusal}
use Rattle.adr_text.specs.Fields.{is_object, member_of, required}
use Rattle.adr_text.specs.declared.fault.Fault.{Fault}
use Rattle.adr_text.specs.declared.fault.Fault.TheVariants.{BadShape}
use Rattle.adr_text.specs.declared.refusal.Refusal.{Refusal}
use Rattle.adr_objects.specs.declared.kind.Kind.{Kind}
use Rattle.adr_objects.specs.declared.kind.Kind.TheVariants as kind
use Rattle.adr_schema.specs.declared.notice.NoticeIn.{NoticeIn}
use Rattle.adr_schema.specs.declared.notice.NoticeIn.TheVariants.{Found, Gone, Ignored}
use Rattle.adr_schema.specs.Bytes.{bytes_as}
use Rattle.adr_schema.specs.Events.{text_at}
use Rattle.adr_schema.specs.Pages.{upstream_id_in, found_in}

-- one of the four words for what was done to an object
abbrev pub is_operation : List ℕ → Bool
is_operation text = bytes_eq text (codes "GET") || bytes_eq text (codes "POST") || bytes_eq text (codes "PUT") || bytes_eq text (codes "DELETE")

abbrev pub operation_of : List ℕ → Result (List ℕ) Fault
operation_of text = if is_operation text then Ok text else Err BadShape

-- the member `operation`, which is one of the four words
abbrev pub operation_in : Data → Result (List ℕ) Fault
operation_in d = text_at (codes "operation") d >>= operation_of

abbrev pub object_as : Data → Result Data Fault
object_as d = if is_object d then Ok d else Err BadShape

-- the object that a notification is about
abbrev pub object_in : Data → Result Data Fault
object_in d = required (member_of (codes "object") d) object_as

-- the kind that an objectType names, of those that are mirrored
abbrev pub kind_named : List ℕ → Option Kind
kind_named type =
    if bytes_eq type (codes "PROGRAM") then Some kind.Program else (if bytes_eq type (codes "EVENT") then Some kind.Event else None)

-- that the object of that id is gone
abbrev pub gone_in : Kind → Data → Result NoticeIn Fault
gone_in kind about = upstream_id_in about >>= λ id. Ok (Gone kind id)

-- the version that the object is
abbrev pub version_in : Kind → Data → Result NoticeIn Fault
version_in kind about = found_in kind about >>= λ version. Ok (Found version)

-- what a notification tells of an object of that kind; nothing, where its kind is not mirrored
abbrev pub told_of : Option Kind → List ℕ → Data → Result NoticeIn Fault
told_of None operation about = Ok Ignored
told_of (Some kind) operation about =
    if bytes_eq operation (codes "DELETE") then gone_in kind about else version_in kind about

-- what a notification tells, where `objectType`, `operation` and `object` are read in this order
unfoldable pub notice_in : Data → Result NoticeIn Fault
notice_in d = do
  type ← text_at (codes "objectType") d
  operation ← operation_in d
  about ← object_in d
  told_of (kind_named type) operation about

-- what the notification that the bytes are tells: that a program or an event is gone, a version of it, or nothing
-- where its kind is not mirrored, or the refusal
unfoldable pub notice_of : List ℕ → Result NoticeIn Refusal
notice_of bytes = as_refusal (bytes_as notice_in bytes)
