-- The head of a reply within the limits.
use Rattle.std.specs.Prelude.{◌≡◌, ◌⊎◌, ℕ, ◌≤◌, List, length, map, nat_lt, Bool, ◌||◌, ◌==◌, if◌then◌else◌, Result, Ok, Err}
use Rattle.httparse.specs.Spans.{name_and_value, IsResponseWithin, IsResponseOf}
use Rattle.httparse.specs.Grammar.{ResponseHead, print_response, ReadsResponse, status_code}
use Rattle.httparse.specs.declared.spans.HeaderSpan.{HeaderSpan}
use Rattle.httparse.specs.declared.spans.ResponseSpans.{ResponseSpans}
use Rattle.adr_wire.specs.declared.end.MessageFault.{MessageFault}
use Rattle.adr_wire.specs.declared.end.MessageFault.TheVariants.{Malformed, TooLarge, NoCoding}
use Rattle.adr_wire.specs.declared.extent.Extent.{Extent}
use Rattle.adr_wire.specs.declared.extent.Extent.TheVariants.{Unsaid}
use Rattle.adr_wire.specs.Extents.{extent_in}
use Rattle.adr_link.specs.declared.reply_head.ReplyHead.{ReplyHead}

-- the bytes are the head h, of at most 16 KiB and 64 fields, and then rest
pub record HeadAt (bytes : List ℕ) (h : ResponseHead) (rest : List ℕ) : Type 0 where
  pub reads : ReadsResponse bytes h rest
  pub within : length (print_response h) ≤ 16384
  pub few : length h.fields ≤ 64

-- the bytes begin with no head of a reply of at most 16 KiB and 64 fields
abbrev pub HasNoHead : List ℕ → Type 0
HasNoHead bytes = (h : ResponseHead) (rest : List ℕ) → ¬ (HeadAt bytes h rest)

-- the spans are those of a head at the front of the bytes, with room for 64 fields
pub record HeadFound (bytes : List ℕ) (headers : List HeaderSpan) (spans : ResponseSpans) : Type 0 where
  pub room : length headers ≡ 64
  pub within : IsResponseWithin bytes headers spans
  pub is_head : IsResponseOf bytes headers spans

-- 204, No Content, and 304, Not Modified, have no body
unfoldable pub is_bodiless : ℕ → Bool
is_bodiless status = status == 204 || status == 304

-- a length that is said where there is no body may be of any size
abbrev pub of_any_size : Result Extent MessageFault → Result Extent MessageFault
of_any_size (Ok extent) = Ok extent
of_any_size (Err TooLarge) = Ok Unsaid
of_any_size (Err Malformed) = Err Malformed
of_any_size (Err NoCoding) = Err NoCoding

-- where the body ends, which has at most 8 MiB, if the status has one
abbrev pub final_extent : Bool → Result Extent MessageFault → Result Extent MessageFault
final_extent is_bodiless extent = if is_bodiless then of_any_size extent else extent

-- where the body ends, of at most 8 MiB where its length is said and the status has a body; a status below 200 is
-- malformed
unfoldable pub reply_extent : ℕ → List (List ℕ × List ℕ) → Result Extent MessageFault
reply_extent status fields = if nat_lt status 200 then Err Malformed else final_extent (is_bodiless status) (extent_in 8388608 fields)

-- the head, with what its fields say
abbrev pub head_with : ResponseHead → Result Extent MessageFault → Result ReplyHead MessageFault
head_with h (Ok extent) = Ok (record { status = status_code h; extent = extent })
head_with h (Err f) = Err f

-- the status that a head has and where the body ends, or its fault
abbrev pub head_in : ResponseHead → Result ReplyHead MessageFault
head_in h = head_with h (reply_extent (status_code h) (map name_and_value h.fields))

-- the bytes begin with a head that says this, and rest follows it
abbrev pub IsHead : List ℕ → ReplyHead → List ℕ → Type 0
IsHead bytes head rest = (h : ResponseHead) × HeadAt bytes h rest × (head_in h ≡ Ok head)

-- the bytes begin with no head, or with one that is refused
abbrev pub IsRefusedHead : List ℕ → MessageFault → Type 0
IsRefusedHead bytes f =
    (HasNoHead bytes × (f ≡ Malformed)) ⊎ ((h : ResponseHead) × (rest : List ℕ) × HeadAt bytes h rest × (head_in h ≡ Err f))
