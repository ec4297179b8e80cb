-- A body in chunks, by its bytes from the left. Each step reads one chunk.
use Rattle.std.specs.Prelude.{◌≡◌, ℕ, ◌+◌, ◌<◌, ◌≤◌, List, [], ◌∷◌, ◌++◌, length, take, drop, bytes_eq, if◌then◌else◌, Result, Ok, Err}
use Rattle.httparse.specs.Grammar.{ChunkLine, print_chunk_line, ReadsChunkLine, chunk_size, Field, LineEnd, print_section, ReadsSection}
use Rattle.adr_wire.specs.Lengths.{body_of_length}
use Rattle.adr_wire.specs.declared.end.MessageFault.{MessageFault}
use Rattle.adr_wire.specs.declared.end.MessageFault.TheVariants.{Malformed, TooLarge}

-- the bytes are this chunk line, of at most 16 KiB with its CRLF, and then rest
pub record LineAt (bytes : List ℕ) (l : ChunkLine) (rest : List ℕ) : Type 0 where
  pub reads : ReadsChunkLine bytes l rest
  pub within : length (print_chunk_line l) ≤ 16384

-- the bytes begin with no such chunk line
abbrev pub HasNoLine : List ℕ → Type 0
HasNoLine bytes = (l : ChunkLine) (rest : List ℕ) → ¬ (LineAt bytes l rest)

-- they begin with trailers and the empty line that ends them, at most 64 and 16 KiB
pub record TrailersAt (bytes : List ℕ) (fields : List Field) (end : LineEnd) (rest : List ℕ) : Type 0 where
  pub reads : ReadsSection bytes fields end rest
  pub within : length (print_section fields end) ≤ 16384
  pub few : length fields ≤ 64

-- they begin with no such trailers
abbrev pub HasNoTrailers : List ℕ → Type 0
HasNoTrailers bytes = (fields : List Field) (end : LineEnd) (rest : List ℕ) → ¬ (TrailersAt bytes fields end rest)

-- trailers of this length are at the front of the bytes
pub record TrailersFound (bytes : List ℕ) (size : ℕ) : Type 0 where
  pub fields : List Field
  pub end : LineEnd
  pub reads : ReadsSection bytes fields end (drop size bytes)
  pub long : size ≡ length (print_section fields end)
  pub fits : size ≤ length bytes
  pub few : length fields ≤ 64

-- the first n bytes of these, if a line end is all that follows; malformed where anything else stands behind them
abbrev pub without_end : ℕ → Result (List ℕ) MessageFault → Result (List ℕ) MessageFault
without_end n (Ok piece) = if bytes_eq (drop n piece) (13 ∷ 10 ∷ []) then Ok (take n piece) else Err Malformed
without_end n (Err f) = Err f

-- so many bytes and a line end
abbrev pub chunk_data : ℕ → List ℕ → Result (List ℕ) MessageFault
chunk_data n bytes = without_end n (body_of_length (n + 2) bytes)

-- more content in front
abbrev pub with_front : List ℕ → Result (List ℕ) MessageFault → Result (List ℕ) MessageFault
with_front front (Ok content) = Ok (front ++ content)
with_front front (Err f) = Err f

-- what the bytes are read as, where so much content came before them, and limit is the most there may be
pub data IsChunks (limit : ℕ) : ℕ → List ℕ → Result (List ℕ) MessageFault → Type 0 where
  -- no chunk line
  no_line : (got : ℕ) (bytes : List ℕ) → HasNoLine bytes → IsChunks limit got bytes (Err Malformed)
  -- a chunk of no bytes, which is the last, and trailers
  last : (got : ℕ) (bytes : List ℕ) (l : ChunkLine) (rest : List ℕ) → LineAt bytes l rest → chunk_size l ≡ 0
      → (fields : List Field) (end : LineEnd) (after : List ℕ) → TrailersAt rest fields end after → IsChunks limit got bytes (Ok [])
  -- a chunk of no bytes, and no trailers
  no_trailers : (got : ℕ) (bytes : List ℕ) (l : ChunkLine) (rest : List ℕ) → LineAt bytes l rest → chunk_size l ≡ 0
      → HasNoTrailers rest → IsChunks limit got bytes (Err Malformed)
  -- a chunk with which there would be more than the most
  too_large : (got : ℕ) (bytes : List ℕ) (l : ChunkLine) (rest : List ℕ) → LineAt bytes l rest → limit < got + chunk_size l
      → IsChunks limit got bytes (Err TooLarge)
  -- a chunk whose data is cut, or has no line end behind it
  bad_data : (got : ℕ) (bytes : List ℕ) (l : ChunkLine) (rest : List ℕ) → LineAt bytes l rest → 0 < chunk_size l → got + chunk_size l ≤ limit
      → (f : MessageFault) → Err f ≡ chunk_data (chunk_size l) rest → IsChunks limit got bytes (Err f)
  -- a chunk, and what follows it
  chunk : (got : ℕ) (bytes : List ℕ) (l : ChunkLine) (rest : List ℕ) → LineAt bytes l rest → 0 < chunk_size l → got + chunk_size l ≤ limit
      → (piece : List ℕ) → Ok piece ≡ chunk_data (chunk_size l) rest
      → (read : Result (List ℕ) MessageFault) → IsChunks limit (got + chunk_size l) (drop (chunk_size l + 2) rest) read
      → IsChunks limit got bytes (with_front piece read)
