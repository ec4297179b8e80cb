-- What the bytes of a request are read as.
use Rattle.std.specs.Prelude.{◌≡◌, [], List, ℕ, option_map, Option, Result, Ok, Err}
use Rattle.adr_wire.specs.declared.end.MessageFault.{MessageFault}
use Rattle.adr_wire.specs.declared.extent.Extent.{Extent}
use Rattle.adr_wire.specs.declared.extent.Extent.TheVariants.{Unsaid, Length, Chunked}
use Rattle.adr_wire.specs.Lengths.{body_of_length}
use Rattle.adr_wire.specs.Chunks.{IsChunks}
use Rattle.adr_request.specs.Heads.{HeadParts, IsHead, IsRefusedHead}
use Rattle.adr_request.specs.declared.request.HttpRequest.{HttpRequest}

-- the most reads of one request, 2^24
abbrev pub most_reads : ℕ
most_reads = 16_777_216

-- what the body is, where the bytes are those after the head: empty where its end is unsaid, else by its length, or
-- in chunks of at most 1 MiB together
abbrev pub IsBody : Extent → List ℕ → Result (List ℕ) MessageFault → Type 0
IsBody Unsaid bytes read = read ≡ Ok []
IsBody (Length n) bytes read = read ≡ body_of_length n bytes
IsBody Chunked bytes read = IsChunks 1048576 0 bytes read

-- a request: its method, its target, the token that it shows, and its body
pub record RequestParts : Type 0 where
  pub method : List ℕ
  pub target : List ℕ
  pub token : Option (List ℕ)
  pub body : List ℕ

-- a request as the code keeps it, by its parts
abbrev pub request_parts : HttpRequest → RequestParts
request_parts r = record { method = r.method.items; target = r.target.items; token = option_map (λ v. v.items) r.token; body = r.body.items }

-- the head with its body
abbrev pub request_with : HeadParts → Result (List ℕ) MessageFault → Result RequestParts MessageFault
request_with head (Ok body) = Ok (record { method = head.method; target = head.target; token = head.token; body = body })
request_with head (Err f) = Err f

-- what bytes are as a request: a head goes first, with its faults, and then the body, with its own
pub data IsRequest (bytes : List ℕ) : Result RequestParts MessageFault → Type 0 where
  -- there is no head, or it is refused
  refused : (f : MessageFault) → IsRefusedHead bytes f → IsRequest bytes (Err f)
  -- a head, and what the bytes behind it are as its body
  request : (head : HeadParts) (rest : List ℕ) (body : Result (List ℕ) MessageFault) → IsHead bytes head rest → IsBody head.extent rest body
      → IsRequest bytes (request_with head body)
