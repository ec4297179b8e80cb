-- What the bytes of a reply are read as.
use Rattle.std.specs.Prelude.{◌≡◌, [], List, ℕ, length, nat_le, IsFalse, MatchBool, if◌then◌else◌, Result, Ok, Err, ⊤}
use Rattle.adr_wire.specs.declared.end.MessageFault.{MessageFault}
use Rattle.adr_wire.specs.declared.end.MessageFault.TheVariants.{Malformed, TooLarge, NoCoding}
use Rattle.adr_wire.specs.declared.end.ReadEnd.{ReadEnd}
use Rattle.adr_wire.specs.declared.end.ReadEnd.TheVariants.{Bytes, Reader, OutOfMemory}
use Rattle.adr_wire.specs.declared.extent.Extent.{Extent}
use Rattle.adr_wire.specs.declared.extent.Extent.TheVariants.{Unsaid, Length, Chunked}
use Rattle.adr_wire.specs.Lengths.{body_of_length}
use Rattle.adr_wire.specs.Chunks.{IsChunks}
use Rattle.adr_link.specs.declared.reply.HttpReply.{HttpReply}
use Rattle.adr_link.specs.declared.reply.LinkFault.{LinkFault}
use Rattle.adr_link.specs.declared.reply.LinkFault.TheVariants as link
use Rattle.adr_link.specs.declared.reply_head.ReplyHead.{ReplyHead}
use Rattle.adr_link.specs.ReplyHeads.{is_bodiless, IsHead, IsRefusedHead}

-- the most reads of one reply, 2^27
abbrev pub most_reads : ℕ
most_reads = 134_217_728

-- all of them, up to 8 MiB; too large where there are more
abbrev pub body_to_end : List ℕ → Result (List ℕ) MessageFault
body_to_end bytes = if nat_le (length bytes) 8388608 then Ok bytes else Err TooLarge

-- what the body is by where it ends, where the bytes are those after the head: all of them, where the head doesn't say
abbrev pub IsBodyBy : Extent → List ℕ → Result (List ℕ) MessageFault → Type 0
IsBodyBy Unsaid bytes read = read ≡ body_to_end bytes
IsBodyBy (Length n) bytes read = read ≡ body_of_length n bytes
IsBodyBy Chunked bytes read = IsChunks 8388608 0 bytes read

-- what the body is: empty, where the status has none
abbrev pub IsBody : ReplyHead → List ℕ → Result (List ℕ) MessageFault → Type 0
IsBody head bytes read = MatchBool (is_bodiless head.status) (read ≡ Ok []) (IsBodyBy head.extent bytes read)

-- ---- faults of a link

-- that of bytes which are no reply
abbrev pub link_fault : MessageFault → LinkFault
link_fault Malformed = link.BadReply
link_fault TooLarge = link.TooLarge
link_fault NoCoding = link.BadReply

-- the link's fault of the end of a reading
abbrev pub link_end : ReadEnd → LinkFault
link_end (Bytes f) = link_fault f
link_end Reader = link.Read
link_end OutOfMemory = link.Memory

-- a reply, or the link's fault of bytes which are none
abbrev pub linked : Result HttpReply MessageFault → Result HttpReply LinkFault
linked (Ok r) = Ok r
linked (Err f) = Err (link_fault f)

-- What was answered is what is read, as P says it of a reply and of a fault.
-- Nothing is said where the reader failed or memory ran out.
abbrev pub IsLinkReading : Result HttpReply LinkFault → (Result HttpReply LinkFault → Type 0) → Type 0
IsLinkReading (Ok r) P = P (Ok r)
IsLinkReading (Err link.BadReply) P = P (Err link.BadReply)
IsLinkReading (Err link.TooLarge) P = P (Err link.TooLarge)
IsLinkReading (Err link.Read) P = ⊤
IsLinkReading (Err link.Memory) P = ⊤

-- ---- replies

-- the head with its body
abbrev pub reply_with : ReplyHead → Result (List ℕ) MessageFault → Result HttpReply MessageFault
reply_with head (Ok body) = Ok (record { status = head.status; body = body })
reply_with head (Err f) = Err f

-- what bytes are as a reply: a head goes first, with its faults, and then the body, with its own
pub data IsReply (bytes : List ℕ) : Result HttpReply LinkFault → Type 0 where
  -- there is no head, or it is refused
  refused : (f : MessageFault) → IsRefusedHead bytes f → IsReply bytes (linked (Err f))
  -- a head, and what the bytes behind it are as its body
  reply : (head : ReplyHead) (rest : List ℕ) (body : Result (List ℕ) MessageFault) → IsHead bytes head rest → IsBody head rest body
      → IsReply bytes (linked (reply_with head body))

-- nothing says where the body ends: it goes on to the end of input
abbrev pub GoesToEnd : ReplyHead → Type 0
GoesToEnd head = IsFalse (is_bodiless head.status) × (head.extent ≡ Unsaid)

-- More may be wanted behind the bytes: if they are a whole reply, its body goes on to the end of input.
abbrev pub AwaitsMore : List ℕ → Type 0
AwaitsMore bytes = (r : HttpReply) → IsReply bytes (Ok r) → (head : ReplyHead) × (rest : List ℕ) × IsHead bytes head rest × GoesToEnd head
