-- The head of a request within the limits.
use Rattle.std.specs.Prelude.{◌≡◌, ◌⊎◌, ℕ, ◌≤◌, ◌==◌, Bool, List, length, map, codes, option_map, Option, Result, Ok, Err, if◌then◌else◌}
use Rattle.httparse.specs.Spans.{name_and_value, IsRequestWithin, IsRequestOf}
use Rattle.httparse.specs.Grammar.{RequestHead, print_request, ReadsRequest}
use Rattle.httparse.specs.declared.spans.HeaderSpan.{HeaderSpan}
use Rattle.httparse.specs.declared.spans.RequestSpans.{RequestSpans}
use Rattle.adr_wire.specs.declared.end.MessageFault.{MessageFault}
use Rattle.adr_wire.specs.declared.end.MessageFault.TheVariants.{Malformed}
use Rattle.adr_wire.specs.declared.extent.Extent.{Extent}
use Rattle.adr_wire.specs.Fields.{values}
use Rattle.adr_wire.specs.Extents.{extent_in}
use Rattle.adr_request.specs.Tokens.{token_in}
use Rattle.adr_request.specs.declared.head.Head.{Head}

-- the bytes are the head h, of at most 16 KiB and 64 fields, and then rest
pub record HeadAt (bytes : List ℕ) (h : RequestHead) (rest : List ℕ) : Type 0 where
  pub reads : ReadsRequest bytes h rest
  pub within : length (print_request h) ≤ 16384
  pub few : length h.fields ≤ 64

-- the bytes begin with no head of at most 16 KiB and 64 fields
abbrev pub HasNoHead : List ℕ → Type 0
HasNoHead bytes = (h : RequestHead) (rest : List ℕ) → ¬ (HeadAt bytes h rest)

-- the spans are those of a head at the front of the bytes, with room for 64 fields
pub record HeadFound (bytes : List ℕ) (headers : List HeaderSpan) (spans : RequestSpans) : Type 0 where
  pub room : length headers ≡ 64
  pub within : IsRequestWithin bytes headers spans
  pub is_head : IsRequestOf bytes headers spans

-- the parts of a head that are used
pub record HeadParts : Type 0 where
  pub method : List ℕ
  pub target : List ℕ
  pub token : Option (List ℕ)
  pub extent : Extent

-- what is used of a head, as the code keeps it: its method, its target, its token, and where the body ends
abbrev pub head_parts : Head → HeadParts
head_parts head = record { method = head.method.items; target = head.target.items; token = option_map (λ v. v.items) head.token; extent = head.extent }

-- in HTTP/1.0 there is no Transfer-Encoding, in HTTP/1.1 there is exactly one Host
abbrev pub fits_version : ℕ → List (List ℕ × List ℕ) → Bool
fits_version minor fields =
    if minor == 0 then length (values (codes "transfer-encoding") fields) == 0
    else length (values (codes "host") fields) == 1

-- where the body ends, of at most 1 MiB where its length is said; malformed where the fields don't fit the version
unfoldable pub request_extent : ℕ → List (List ℕ × List ℕ) → Result Extent MessageFault
request_extent minor fields = if fits_version minor fields then extent_in 1048576 fields else Err Malformed

-- the head, with what its fields say
abbrev pub head_with : RequestHead → Result Extent MessageFault → Result HeadParts MessageFault
head_with h (Ok extent) = Ok (record { method = h.method; target = h.target; token = token_in (map name_and_value h.fields); extent = extent })
head_with h (Err f) = Err f

-- what is used of a head, or the fault of where its body ends
abbrev pub head_in : RequestHead → Result HeadParts MessageFault
head_in h = head_with h (request_extent h.minor (map name_and_value h.fields))

-- the bytes begin with a head that says this, and rest follows it
abbrev pub IsHead : List ℕ → HeadParts → List ℕ → Type 0
IsHead bytes head rest = (h : RequestHead) × HeadAt bytes h rest × (head_in h ≡ Ok head)

-- the bytes begin with no head, which is malformed, or with one that is refused
abbrev pub IsRefusedHead : List ℕ → MessageFault → Type 0
IsRefusedHead bytes f =
    (HasNoHead bytes × (f ≡ Malformed)) ⊎ ((h : RequestHead) × (rest : List ℕ) × HeadAt bytes h rest × (head_in h ≡ Err f))
