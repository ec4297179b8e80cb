-- What had come as a reader failed, and that it was not whole.
use Rattle.std.proofs.Common.{◌≡◌, ℕ, ◌+◌, ◌<◌, ◌≤◌, List, [], ◌++◌, length, take, drop, refl, sym, ◌∙◌, ap, subst, arith, Option, None, Some, Result, Ok, Err, append_assoc, drop_of_length-le}
use Rattle.std.proofs.lemmas.Bool.Decides.{nat_tests}
use Rattle.std.proofs.lemmas.List.{take-append-drop, drop-append-le}
use Rattle.httparse.specs.Grammar.{ChunkLine, print_chunk_line, chunk_size}
use Rattle.adr_wire.specs.declared.end.MessageFault.{MessageFault}
use Rattle.adr_wire.specs.declared.end.MessageFault.TheVariants.{Malformed}
use Rattle.adr_wire.specs.Pieces.{Holds}
use Rattle.adr_wire.specs.Lengths.{body_of_length}
use Rattle.adr_wire.specs.Chunks.{LineAt, HasNoLine, HasNoTrailers, with_front, without_end, chunk_data, IsChunks}
use Rattle.adr_wire.proofs.Lengths.{length_cut}
use Rattle.adr_wire.proofs.OneChunked.{AfterLine, a_last, a_no_trailers, a_large, a_bad, a_chunk, after_line, with_no_line}

-- behind a front that was used, what came is the front and what came of the rest
pub came_behind : (left : Option (List ℕ)) (bytes front now came : List ℕ) → bytes ≡ front ++ now → Holds left came now → Holds left (front ++ came) bytes
came_behind None bytes front now came all held = elim held [ ]
came_behind (Some left) bytes front now came all held = all ∙ ap (λ z. front ++ z) held ∙ sym (append_assoc front came left)

-- a whole body behind such a front has what remains of it whole
abbrev pub Remains : ℕ → ℕ → List ℕ → Type 0
Remains limit got front = (tail content : List ℕ) → IsChunks limit 0 (front ++ tail) (Ok content) → (rest : List ℕ) × IsChunks limit got tail (Ok rest)

no_ok : {A : Type 0} {X : Type 0} (f : MessageFault) (x : X) → ◌≡◌ {A = Result X MessageFault} (Err f) (Ok x) → A
no_ok f x e = absurd cc

pub no_line_is_no_body : (limit got : ℕ) (bytes content : List ℕ) → HasNoLine bytes → ¬ (IsChunks limit got bytes (Ok content))
no_line_is_no_body limit got bytes content none = λ is. no_ok Malformed content (with_no_line limit got bytes (Ok content) none is)

-- the line, and whatever follows it
line_then : (bytes : List ℕ) (l : ChunkLine) (rest tail : List ℕ) → LineAt bytes l rest → LineAt (print_chunk_line l ++ tail) l tail
line_then bytes l rest tail at = record { reads = (at.reads.0, refl); within = at.within }

pub no_trailers_is_no_body : (limit got : ℕ) (bytes : List ℕ) (l : ChunkLine) (rest tail content : List ℕ) → LineAt bytes l rest → chunk_size l ≡ 0 → got ≤ limit
    → HasNoTrailers tail → ¬ (IsChunks limit got (print_chunk_line l ++ tail) (Ok content))
no_trailers_is_no_body limit got bytes l rest tail content at zero small none = λ is.
    by (Ok content) refl (after_line limit got (print_chunk_line l ++ tail) (Ok content) l tail (line_then bytes l rest tail at) is)
  where
    by : (read : Result (List ℕ) MessageFault) → read ≡ Ok content → AfterLine limit got l tail read → ⊥
    by read e (a_last _ fields end after has) = none fields end after has
    by read e (a_no_trailers _ _) = no_ok _ content e
    by read e (a_large _) = no_ok _ content e
    by read e (a_bad some _ _ _) = omega arith
    by read e (a_chunk some _ _ _ _ _) = omega arith

pub cut_data_is_no_body : (limit got : ℕ) (bytes : List ℕ) (l : ChunkLine) (rest tail content : List ℕ) → LineAt bytes l rest → 0 < chunk_size l → got + chunk_size l ≤ limit
    → length tail < chunk_size l + 2 → ¬ (IsChunks limit got (print_chunk_line l ++ tail) (Ok content))
cut_data_is_no_body limit got bytes l rest tail content at some fits cut = λ is.
    by (Ok content) refl (after_line limit got (print_chunk_line l ++ tail) (Ok content) l tail (line_then bytes l rest tail at) is)
  where
    by : (read : Result (List ℕ) MessageFault) → read ≡ Ok content → AfterLine limit got l tail read → ⊥
    by read e (a_last zero _ _ _ _) = omega arith
    by read e (a_no_trailers _ _) = no_ok _ content e
    by read e (a_large _) = no_ok _ content e
    by read e (a_bad _ _ _ _) = no_ok _ content e
    by read e (a_chunk _ _ piece is _ _) =
        let none : chunk_data (chunk_size l) tail ≡ Err Malformed = ap (without_end (chunk_size l)) (length_cut tail (chunk_size l + 2) cut) in
        no_ok Malformed piece (sym (is ∙ none))

-- the bytes of a length, and those behind them
pub body_is : (n : ℕ) (bytes piece : List ℕ) → Ok piece ≡ body_of_length n bytes → length piece ≡ n → bytes ≡ piece ++ drop n bytes
body_is n bytes piece is long =
    let taken : piece ≡ take n bytes = grind (arith, nat_tests) in
    sym (ap (λ z. z ++ drop n bytes) taken ∙ take-append-drop n bytes)

-- one chunk more before what remains
pub chunk_remains : (limit got : ℕ) (front bytes : List ℕ) (l : ChunkLine) (rest piece : List ℕ) → LineAt bytes l rest → 0 < chunk_size l → got + chunk_size l ≤ limit → length piece ≡ chunk_size l + 2
    → Remains limit got front → Remains limit (got + chunk_size l) (front ++ (print_chunk_line l ++ piece))
chunk_remains limit got front bytes l rest piece at some fits long remains = λ tail content is.
    let flat : (front ++ (print_chunk_line l ++ piece)) ++ tail ≡ front ++ (print_chunk_line l ++ (piece ++ tail)) = append_assoc front (print_chunk_line l ++ piece) tail ∙ ap (λ z. front ++ z) (append_assoc (print_chunk_line l) piece tail) in
    let next = remains (print_chunk_line l ++ (piece ++ tail)) content (subst (λ b. IsChunks limit 0 b (Ok content)) flat is) in
    by tail next.0 (Ok next.0) refl (after_line limit got (print_chunk_line l ++ (piece ++ tail)) (Ok next.0) l (piece ++ tail) (line_then bytes l rest (piece ++ tail) at) next.1)
  where
    behind : (tail : List ℕ) → drop (chunk_size l + 2) (piece ++ tail) ≡ tail
    behind tail =
        let cut = drop-append-le (chunk_size l + 2) piece tail (omega (arith, long)) in
        let none : drop (chunk_size l + 2) piece ≡ [] = drop_of_length-le piece (omega (arith, long)) in
        cut ∙ ap (λ z. z ++ tail) none

    on : (tail first : List ℕ) (c : List ℕ) (read : Result (List ℕ) MessageFault) → with_front first read ≡ Ok c → IsChunks limit (got + chunk_size l) (drop (chunk_size l + 2) (piece ++ tail)) read
        → (r : List ℕ) × IsChunks limit (got + chunk_size l) tail (Ok r)
    on tail first c (Ok r) e is = (r, subst (λ b. IsChunks limit (got + chunk_size l) b (Ok r)) (behind tail) is)
    on tail first c (Err f) e is = no_ok f c e

    by : (tail c : List ℕ) (read : Result (List ℕ) MessageFault) → read ≡ Ok c → AfterLine limit got l (piece ++ tail) read → (r : List ℕ) × IsChunks limit (got + chunk_size l) tail (Ok r)
    by tail c read e (a_last zero _ _ _ _) = absurd (omega arith)
    by tail c read e (a_no_trailers zero _) = absurd (omega arith)
    by tail c read e (a_large over) = absurd (omega arith)
    by tail c read e (a_bad _ _ f _) = no_ok f c e
    by tail c read e (a_chunk _ _ first _ next is) = on tail first c next e is

-- the step: behind the chunk stands what remains
pub next_remains : (limit : ℕ) (bytes front now : List ℕ) (l : ChunkLine) (rest content piece new : List ℕ) (size : ℕ) → bytes ≡ front ++ now → LineAt now l rest → size ≡ chunk_size l
    → 0 < size → length content + size ≤ limit → Ok piece ≡ body_of_length (size + 2) rest → length piece ≡ size + 2 → length new ≡ length content + size → Remains limit (length content) front
    → (bytes ≡ (front ++ (print_chunk_line l ++ piece)) ++ drop (size + 2) rest) × Remains limit (length new) (front ++ (print_chunk_line l ++ piece))
next_remains limit bytes front now l rest content piece new size all at is some fits read long longer remains =
    let P : ℕ → Type 0 = λ n. 0 < n in
    let Q : ℕ → Type 0 = λ n. length content + n ≤ limit in
    let R : ℕ → Type 0 = λ n. length piece ≡ n + 2 in
    let S : ℕ → Type 0 = λ n. Remains limit (length content + n) (front ++ (print_chunk_line l ++ piece)) in
    let T : ℕ → Type 0 = λ n. Remains limit n (front ++ (print_chunk_line l ++ piece)) in
    let after : List ℕ = drop (size + 2) rest in
    let cut : rest ≡ piece ++ after = body_is (size + 2) rest piece read long in
    let flat : bytes ≡ front ++ (print_chunk_line l ++ (piece ++ after)) = all ∙ ap (λ z. front ++ z) (at.reads.1 ∙ ap (λ z. print_chunk_line l ++ z) cut) in
    let back : front ++ (print_chunk_line l ++ (piece ++ after)) ≡ (front ++ (print_chunk_line l ++ piece)) ++ after =
    ap (λ z. front ++ z) (sym (append_assoc (print_chunk_line l) piece after)) ∙ sym (append_assoc front (print_chunk_line l ++ piece) after) in
    let one_more = chunk_remains limit (length content) front now l rest piece at (subst P is some) (subst Q is fits) (subst R is long) remains in
    (flat ∙ back, subst T (sym longer) (subst S (sym is) one_more))
