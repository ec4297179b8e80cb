-- One step of a chunked body, from what was read of it.
use Rattle.std.proofs.Common.{◌≡◌, ℕ, ◌+◌, ◌<◌, ◌≤◌, List, [], ◌∷◌, ◌++◌, length, drop, refl, sym, ◌∙◌, ap, subst, Result, Ok, Err, append_assoc}
use Rattle.httparse.specs.Grammar.{ChunkLine, chunk_size}
use Rattle.adr_wire.specs.declared.end.MessageFault.{MessageFault}
use Rattle.adr_wire.specs.declared.end.MessageFault.TheVariants.{Malformed, TooLarge}
use Rattle.adr_wire.specs.Lengths.{body_of_length}
use Rattle.adr_wire.specs.Chunks.{LineAt, HasNoLine, HasNoTrailers, with_front, without_end, chunk_data, IsChunks, no_line, no_trailers, too_large, bad_data, chunk}

with_front_twice : (a b : List ℕ) (read : Result (List ℕ) MessageFault) → with_front a (with_front b read) ≡ with_front (a ++ b) read
with_front_twice a b (Ok c) = ap Ok (sym (append_assoc a b c))
with_front_twice a b (Err f) = refl

pub at_no_line : (limit got : ℕ) (bytes : List ℕ) (f : MessageFault) → f ≡ Malformed → HasNoLine bytes → IsChunks limit got bytes (Err f)
at_no_line limit got bytes f is none =
    let P : MessageFault → Type 0 = λ e. IsChunks limit got bytes (Err e) in
    subst P (sym is) (no_line got bytes none)

pub at_no_trailers : (limit got : ℕ) (bytes : List ℕ) (l : ChunkLine) (rest : List ℕ) (f : MessageFault) → f ≡ Malformed → LineAt bytes l rest → chunk_size l ≡ 0 → HasNoTrailers rest → IsChunks limit got bytes (Err f)
at_no_trailers limit got bytes l rest f is line zero none =
    let P : MessageFault → Type 0 = λ e. IsChunks limit got bytes (Err e) in
    subst P (sym is) (no_trailers got bytes l rest line zero none)

append_none : (xs : List ℕ) → xs ++ [] ≡ xs
append_none [] = refl
append_none (x ∷ xs) = ap (λ ys. x ∷ ys) (append_none xs)

pub whole_content : (limit got : ℕ) (start : List ℕ) (content : List ℕ) → IsChunks limit got start (with_front content (Ok [])) → IsChunks limit got start (Ok content)
whole_content limit got start content is =
    let P : List ℕ → Type 0 = λ c. IsChunks limit got start (Ok c) in
    subst P (append_none content) is

pub at_large : (limit got : ℕ) (bytes : List ℕ) (l : ChunkLine) (rest : List ℕ) (size : ℕ) → LineAt bytes l rest → size ≡ chunk_size l → limit < got + size → IsChunks limit got bytes (Err TooLarge)
at_large limit got bytes l rest size line is over =
    let P : ℕ → Type 0 = λ n. limit < got + n in
    too_large got bytes l rest line (subst P is over)

pub at_bad_data : (limit got : ℕ) (bytes : List ℕ) (l : ChunkLine) (rest : List ℕ) (size : ℕ) (f : MessageFault) → LineAt bytes l rest → size ≡ chunk_size l → 0 < size → got + size ≤ limit
    → Err f ≡ chunk_data size rest → IsChunks limit got bytes (Err f)
at_bad_data limit got bytes l rest size f line is some fits read =
    let P : ℕ → Type 0 = λ n. 0 < n in
    let Q : ℕ → Type 0 = λ n. got + n ≤ limit in
    let R : ℕ → Type 0 = λ n. Err f ≡ chunk_data n rest in
    bad_data got bytes l rest line (subst P is some) (subst Q is fits) f (subst R is read)

-- the data and its line end are there, or they end in no line end
pub data_cut : (size : ℕ) (rest : List ℕ) (f : MessageFault) → Err f ≡ body_of_length (size + 2) rest → Err f ≡ chunk_data size rest
data_cut size rest f e = ap (without_end size) e

pub data_read : (size : ℕ) (rest piece : List ℕ) (read : Result (List ℕ) MessageFault) → Ok piece ≡ body_of_length (size + 2) rest → read ≡ without_end size (Ok piece) → read ≡ chunk_data size rest
data_read size rest piece read e is = is ∙ ap (without_end size) e

-- the step: what remains after the chunk completes the content with the chunk
pub at_chunk : (limit : ℕ) (start got_bytes : List ℕ) (l : ChunkLine) (rest content piece : List ℕ) (size got : ℕ) (new : List ℕ)
    → LineAt got_bytes l rest → size ≡ chunk_size l → 0 < size → length content + size ≤ limit
    → Ok piece ≡ chunk_data size rest → length piece ≡ size → new ≡ content ++ piece → length new ≡ length content + size
    → ((read : Result (List ℕ) MessageFault) → IsChunks limit (length content) got_bytes read → IsChunks limit 0 start (with_front content read))
    → (read : Result (List ℕ) MessageFault) → IsChunks limit (length new) (drop (size + 2) rest) read → IsChunks limit 0 start (with_front new read)
at_chunk limit start got_bytes l rest content piece size got new line is some fits data_is long grown longer on read here =
    let P : ℕ → Type 0 = λ n. 0 < n in
    let Q : ℕ → Type 0 = λ n. length content + n ≤ limit in
    let R : ℕ → Type 0 = λ n. Ok piece ≡ chunk_data n rest in
    let S : ℕ → Type 0 = λ n. IsChunks limit (length content + n) (drop (n + 2) rest) read in
    let T : ℕ → Type 0 = λ n. IsChunks limit n (drop (size + 2) rest) read in
    let U : Result (List ℕ) MessageFault → Type 0 = λ r. IsChunks limit 0 start r in
    let V : List ℕ → Type 0 = λ n. IsChunks limit 0 start (with_front n read) in
    let step = chunk (length content) got_bytes l rest line (subst P is some) (subst Q is fits) piece (subst R is data_is) read (subst S is (subst T longer here)) in
    subst V (sym grown) (subst U (with_front_twice content piece read) (on (with_front piece read) step))
