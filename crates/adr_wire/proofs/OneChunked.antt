-- A chunked body is read in one way.
use Rattle.std.proofs.Common.{◌≡◌, ℕ, ◌+◌, ◌<◌, ◌≤◌, List, [], drop, refl, ◌∙◌, ap, subst, arith, Result, Ok, Err}
use Rattle.httparse.specs.Grammar.{ChunkLine, chunk_size, Field, LineEnd}
use Rattle.httparse.proofs.ChunkLemmas.{chunk_line_unique}
use Rattle.adr_wire.specs.declared.end.MessageFault.{MessageFault}
use Rattle.adr_wire.specs.declared.end.MessageFault.TheVariants.{Malformed, TooLarge}
use Rattle.adr_wire.specs.Chunks.{LineAt, HasNoLine, TrailersAt, HasNoTrailers, with_front, chunk_data, IsChunks, no_line, no_trailers, last, too_large, bad_data, chunk}

-- what a chunked body is, where this is its first line
pub data AfterLine (limit got : ℕ) (l : ChunkLine) (rest : List ℕ) : Result (List ℕ) MessageFault → Type 0 where
  a_last : chunk_size l ≡ 0 → (fields : List Field) (end : LineEnd) (after : List ℕ) → TrailersAt rest fields end after → AfterLine limit got l rest (Ok [])
  a_no_trailers : chunk_size l ≡ 0 → HasNoTrailers rest → AfterLine limit got l rest (Err Malformed)
  a_large : limit < got + chunk_size l → AfterLine limit got l rest (Err TooLarge)
  a_bad : 0 < chunk_size l → got + chunk_size l ≤ limit → (f : MessageFault) → Err f ≡ chunk_data (chunk_size l) rest → AfterLine limit got l rest (Err f)
  a_chunk : 0 < chunk_size l → got + chunk_size l ≤ limit → (piece : List ℕ) → Ok piece ≡ chunk_data (chunk_size l) rest
      → (read : Result (List ℕ) MessageFault) → IsChunks limit (got + chunk_size l) (drop (chunk_size l + 2) rest) read → AfterLine limit got l rest (with_front piece read)

carried : (limit got : ℕ) (bytes : List ℕ) (b : Result (List ℕ) MessageFault) (l k : ChunkLine) (r q : List ℕ) → LineAt bytes l r → LineAt bytes k q → AfterLine limit got k q b → AfterLine limit got l r b
carried limit got bytes b l k r q x y after =
    let same = chunk_line_unique bytes k l q r y.reads x.reads in
    let P : ChunkLine → Type 0 = λ m. AfterLine limit got m q b in
    let Q : List ℕ → Type 0 = λ m. AfterLine limit got l m b in
    subst Q same.1 (subst P same.0 after)

pub after_line : (limit got : ℕ) (bytes : List ℕ) (b : Result (List ℕ) MessageFault) (l : ChunkLine) (r : List ℕ) → LineAt bytes l r → IsChunks limit got bytes b → AfterLine limit got l r b
after_line limit got bytes b l r x (no_line _ _ none) = absurd (none l r x)
after_line limit got bytes b l r x (last _ _ k q y zero fields end after at) = carried limit got bytes (Ok []) l k r q x y (a_last zero fields end after at)
after_line limit got bytes b l r x (no_trailers _ _ k q y zero none) = carried limit got bytes (Err Malformed) l k r q x y (a_no_trailers zero none)
after_line limit got bytes b l r x (too_large _ _ k q y over) = carried limit got bytes (Err TooLarge) l k r q x y (a_large over)
after_line limit got bytes b l r x (bad_data _ _ k q y some fits f e) = carried limit got bytes (Err f) l k r q x y (a_bad some fits f e)
after_line limit got bytes b l r x (chunk _ _ k q y some fits piece e read on) = carried limit got bytes (with_front piece read) l k r q x y (a_chunk some fits piece e read on)

pub with_no_line : (limit got : ℕ) (bytes : List ℕ) (b : Result (List ℕ) MessageFault) → HasNoLine bytes → IsChunks limit got bytes b → Err Malformed ≡ b
with_no_line limit got bytes b none (no_line _ _ _) = refl
with_no_line limit got bytes b none (last _ _ k q y _ _ _ _ _) = absurd (none k q y)
with_no_line limit got bytes b none (no_trailers _ _ k q y _ _) = absurd (none k q y)
with_no_line limit got bytes b none (too_large _ _ k q y _) = absurd (none k q y)
with_no_line limit got bytes b none (bad_data _ _ k q y _ _ _ _) = absurd (none k q y)
with_no_line limit got bytes b none (chunk _ _ k q y _ _ _ _ _ _) = absurd (none k q y)

same_last : (limit got : ℕ) (l : ChunkLine) (r : List ℕ) (b : Result (List ℕ) MessageFault) → got ≤ limit → chunk_size l ≡ 0
    → (fields : List Field) (end : LineEnd) (after : List ℕ) → TrailersAt r fields end after → AfterLine limit got l r b → Ok [] ≡ b
same_last limit got l r b small zero fields end after at (a_last _ _ _ _ _) = refl
same_last limit got l r b small zero fields end after at (a_no_trailers _ none) = absurd (none fields end after at)
same_last limit got l r b small zero fields end after at (a_large over) = absurd (omega arith)
same_last limit got l r b small zero fields end after at (a_bad some _ _ _) = absurd (omega arith)
same_last limit got l r b small zero fields end after at (a_chunk some _ _ _ _ _) = absurd (omega arith)

same_no_trailers : (limit got : ℕ) (l : ChunkLine) (r : List ℕ) (b : Result (List ℕ) MessageFault) → got ≤ limit → chunk_size l ≡ 0
    → HasNoTrailers r → AfterLine limit got l r b → Err Malformed ≡ b
same_no_trailers limit got l r b small zero none (a_last _ fields end after at) = absurd (none fields end after at)
same_no_trailers limit got l r b small zero none (a_no_trailers _ _) = refl
same_no_trailers limit got l r b small zero none (a_large over) = absurd (omega arith)
same_no_trailers limit got l r b small zero none (a_bad some _ _ _) = absurd (omega arith)
same_no_trailers limit got l r b small zero none (a_chunk some _ _ _ _ _) = absurd (omega arith)

same_large : (limit got : ℕ) (l : ChunkLine) (r : List ℕ) (b : Result (List ℕ) MessageFault) → got ≤ limit → limit < got + chunk_size l → AfterLine limit got l r b → Err TooLarge ≡ b
same_large limit got l r b small over (a_last zero _ _ _ _) = absurd (omega arith)
same_large limit got l r b small over (a_no_trailers zero _) = absurd (omega arith)
same_large limit got l r b small over (a_large _) = refl
same_large limit got l r b small over (a_bad _ fits _ _) = absurd (omega arith)
same_large limit got l r b small over (a_chunk _ fits _ _ _ _) = absurd (omega arith)

same_bad : (limit got : ℕ) (l : ChunkLine) (r : List ℕ) (b : Result (List ℕ) MessageFault) → 0 < chunk_size l → got + chunk_size l ≤ limit → (f : MessageFault) → Err f ≡ chunk_data (chunk_size l) r → AfterLine limit got l r b → Err f ≡ b
same_bad limit got l r b some fits f e (a_last zero _ _ _ _) = absurd (omega arith)
same_bad limit got l r b some fits f e (a_no_trailers zero _) = absurd (omega arith)
same_bad limit got l r b some fits f e (a_large over) = absurd (omega arith)
same_bad limit got l r b some fits f e (a_bad _ _ k d) = cc (e, d)
same_bad limit got l r b some fits f e (a_chunk _ _ piece d _ _) = cc (e, d)

same_chunk : (limit got : ℕ) (l : ChunkLine) (r : List ℕ) (b : Result (List ℕ) MessageFault) → 0 < chunk_size l → got + chunk_size l ≤ limit → (piece : List ℕ) → Ok piece ≡ chunk_data (chunk_size l) r
    → (read : Result (List ℕ) MessageFault) → ((other : Result (List ℕ) MessageFault) → IsChunks limit (got + chunk_size l) (drop (chunk_size l + 2) r) other → read ≡ other)
    → AfterLine limit got l r b → with_front piece read ≡ b
same_chunk limit got l r b some fits piece e read only (a_last zero _ _ _ _) = absurd (omega arith)
same_chunk limit got l r b some fits piece e read only (a_no_trailers zero _) = absurd (omega arith)
same_chunk limit got l r b some fits piece e read only (a_large over) = absurd (omega arith)
same_chunk limit got l r b some fits piece e read only (a_bad _ _ k d) = cc (e, d)
same_chunk limit got l r b some fits piece e read only (a_chunk _ _ other d next on) =
    let same : piece ≡ other = cc (e, d) in
    let rest = only next on in
    ap (λ p. with_front p read) same ∙ ap (with_front other) rest

pub one_chunked : (limit got : ℕ) (bytes : List ℕ) (a b : Result (List ℕ) MessageFault) → got ≤ limit → IsChunks limit got bytes a → IsChunks limit got bytes b → a ≡ b
one_chunked limit got bytes a b small (no_line _ _ none) y = with_no_line limit got bytes b none y
one_chunked limit got bytes a b small (last _ _ l r x zero fields end after at) y = same_last limit got l r b small zero fields end after at (after_line limit got bytes b l r x y)
one_chunked limit got bytes a b small (no_trailers _ _ l r x zero none) y = same_no_trailers limit got l r b small zero none (after_line limit got bytes b l r x y)
one_chunked limit got bytes a b small (too_large _ _ l r x over) y = same_large limit got l r b small over (after_line limit got bytes b l r x y)
one_chunked limit got bytes a b small (bad_data _ _ l r x some fits f e) y = same_bad limit got l r b some fits f e (after_line limit got bytes b l r x y)
one_chunked limit got bytes a b small (chunk _ _ l r x some fits piece e read on) y =
    same_chunk limit got l r b some fits piece e read (λ other z. one_chunked limit (got + chunk_size l) (drop (chunk_size l + 2) r) read other fits on z) (after_line limit got bytes b l r x y)
