-- What is read from sites and operators.
use Rattle.std.specs.Prelude.{ℕ, List, codes, Result, Ok}
use Rattle.serde_json.specs.Data.{Data}
use Rattle.adr_text.specs.Refusals.{◌>>=◌}
use Rattle.adr_text.specs.Faults.{as_refusal}
use Rattle.adr_text.specs.Fields.{member_of, required, name_in, u32_in}
use Rattle.adr_text.specs.declared.fault.Fault.{Fault}
use Rattle.adr_text.specs.declared.refusal.Refusal.{Refusal}
use Rattle.adr_objects.specs.declared.site.VenIn.{VenIn}
use Rattle.adr_objects.specs.declared.site.ResourceIn.{ResourceIn}
use Rattle.adr_objects.specs.declared.site.ShareIn.{ShareIn}
use Rattle.adr_schema.specs.Bytes.{bytes_as}
use Rattle.adr_objects.specs.Limits.{resource_name_of}
use Rattle.adr_schema.specs.Events.{text_at}

-- a ven: a `venName` of 1 to 128 bytes
unfoldable pub ven_in : Data → Result VenIn Fault
ven_in d = do
  name ← required (member_of (codes "venName") d) name_in
  Ok (record { name = name })

-- a resource: a `resourceName` of 1 to 128 bytes, but not `AGGREGATED_REPORT`
unfoldable pub resource_in : Data → Result ResourceIn Fault
resource_in d = do
  name ← text_at (codes "resourceName") d >>= resource_name_of
  Ok (record { name = name })

-- a share: a whole number from 0 to 2^32 - 1
unfoldable pub share_in : Data → Result ShareIn Fault
share_in d = do
  share ← required (member_of (codes "share") d) u32_in
  Ok (record { share = share })

-- the ven that the bytes are, or the refusal of who posts them
unfoldable pub ven_of : List ℕ → Result VenIn Refusal
ven_of bytes = as_refusal (bytes_as ven_in bytes)

-- the resource that the bytes are, or the refusal of who posts them
unfoldable pub resource_of : List ℕ → Result ResourceIn Refusal
resource_of bytes = as_refusal (bytes_as resource_in bytes)

-- the share that the bytes are, or the refusal of who posts them
unfoldable pub share_of : List ℕ → Result ShareIn Refusal
share_of bytes = as_refusal (bytes_as share_in bytes)

-- anything that is JSON: what it says is passed over
abbrev pub anything_in : List ℕ → Result Unit Fault
anything_in bytes = bytes_as (λ d. Ok tt) bytes

-- nothing of the bytes but that they are JSON, or the refusal of who posts them
unfoldable pub anything_of : List ℕ → Result Unit Refusal
anything_of bytes = as_refusal (anything_in bytes)
