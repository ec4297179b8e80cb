-- Where a head, a chunk line and a section end.
use Rattle.std.proofs.Common.{◌≡◌, ◌⊎◌, inl, inr, ℕ, ◌+◌, ◌-◌, ◌<◌, ◌≤◌, Bool, true, false, ◌==◌, List, [], ◌∷◌, ◌++◌, length, take, drop, get_or, slice_index, refl, sym, ◌∙◌, ap, subst, arith, leb, append_assoc, append-nil, length-append}
use Rattle.std.specs.List.{flat_map, list_any}
use Rattle.std.proofs.lemmas.Bool.Decides.{nat_tests, leb_tells}
use Rattle.std.proofs.lemmas.List.{get_or-append-add, drop-append-le, take-append-drop, length-take}
use Rattle.httparse.specs.Grammar.{LineEnd, crlf, lf, print_end, Field, print_field, print_section, ChunkLine, print_chunk_line, print_extension}
use Rattle.adr_wire.specs.Lines.{has_line_end, begins_line, before_return, is_empty_line_at}
use Rattle.adr_wire.specs.Chunks.{LineAt, HasNoLine, TrailersAt, HasNoTrailers}
use Rattle.adr_wire.proofs.Fronts.{front_of}

-- nothing, or bytes whose last is a line feed
abbrev pub EndsLine : List ℕ → Type 0
EndsLine front = (front ≡ []) ⊎ ((f : List ℕ) × (front ≡ f ++ 10 ∷ []))

pub ends_with_end : (a : List ℕ) (e : LineEnd) → EndsLine (a ++ print_end e)
ends_with_end a crlf = inr (a ++ 13 ∷ [], sym (append_assoc a (13 ∷ []) (10 ∷ [])))
ends_with_end a lf = inr (a, refl)

ends_with_field : (a : List ℕ) (f : Field) → EndsLine (a ++ print_field f)
ends_with_field a f = subst EndsLine (append_assoc a (f.name ++ 58 ∷ f.raw) (print_end f.end)) (ends_with_end (a ++ (f.name ++ 58 ∷ f.raw)) f.end)

ends_with_fields : (a : List ℕ) → EndsLine a → (fs : List Field) → EndsLine (a ++ flat_map print_field fs)
ends_with_fields a is [] = subst EndsLine (sym (append-nil a)) is
ends_with_fields a is (f ∷ fs) = subst EndsLine (append_assoc a (print_field f) (flat_map print_field fs)) (ends_with_fields (a ++ print_field f) (ends_with_field a f) fs)

-- the byte behind a front
byte_behind : (front : List ℕ) (n : ℕ) (rest : List ℕ) → slice_index (front ++ n ∷ rest) (length front) ≡ n
byte_behind front n rest =
    let P : ℕ → Type 0 = λ k. slice_index (front ++ n ∷ rest) k ≡ n in
    subst P (omega arith) (get_or-append-add front (n ∷ rest) 0 0)

-- what follows a front that ends a line begins one
begins : (front rest : List ℕ) → EndsLine front → begins_line (length front) (front ++ rest) ≡ true
begins front rest (inl none) = subst (λ f. begins_line (length f) (f ++ rest) ≡ true) (sym none) refl
begins front rest (inr is) =
    let f : List ℕ = is.0 in
    let all : (f ++ 10 ∷ []) ++ rest ≡ f ++ 10 ∷ rest = append_assoc f (10 ∷ []) rest in
    let last : slice_index ((f ++ 10 ∷ []) ++ rest) (length f) ≡ 10 = subst (λ b. slice_index b (length f) ≡ 10) (sym all) (byte_behind f 10 rest) in
    let long : length (f ++ 10 ∷ []) ≡ length f + 1 = length-append f (10 ∷ []) in
    let one_less : length (f ++ 10 ∷ []) - 1 ≡ length f = omega (arith, long) in
    let byte : slice_index ((f ++ 10 ∷ []) ++ rest) (length (f ++ 10 ∷ []) - 1) ≡ 10 = subst (λ k. slice_index ((f ++ 10 ∷ []) ++ rest) k ≡ 10) (sym one_less) last in
    let goes : begins_line (length (f ++ 10 ∷ [])) ((f ++ 10 ∷ []) ++ rest) ≡ true = grind (arith, nat_tests) in
    subst (λ p. begins_line (length p) (p ++ rest) ≡ true) (sym is.1) goes

-- an empty line behind such a front ends with its last byte
empty_after : (front : List ℕ) (e : LineEnd) (rest : List ℕ) → EndsLine front → is_empty_line_at (length (front ++ print_end e) - 1) ((front ++ print_end e) ++ rest) ≡ true
empty_after front crlf rest is =
    let all : List ℕ = (front ++ 13 ∷ 10 ∷ []) ++ rest in
    let flat : all ≡ front ++ 13 ∷ 10 ∷ rest = append_assoc front (13 ∷ 10 ∷ []) rest in
    let long : length (front ++ 13 ∷ 10 ∷ []) ≡ length front + 2 = length-append front (13 ∷ 10 ∷ []) in
    let place : length (front ++ 13 ∷ 10 ∷ []) - 1 ≡ length front + 1 = omega (arith, long) in
    let feed : slice_index all (length front + 1) ≡ 10 = subst (λ b. slice_index b (length front + 1) ≡ 10) (sym flat) (get_or-append-add front (13 ∷ 10 ∷ rest) 1 0) in
    let return : slice_index all (length front) ≡ 13 = subst (λ b. slice_index b (length front) ≡ 13) (sym flat) (byte_behind front 13 (10 ∷ rest)) in
    let less : length front + 1 - 1 ≡ length front = omega arith in
    let return_before : slice_index all (length front + 1 - 1) ≡ 13 = subst (λ k. slice_index all k ≡ 13) (sym less) return in
    let back : before_return (length front + 1) all ≡ length front = grind (arith, nat_tests) in
    let start : begins_line (length front) all ≡ true = subst (λ b. begins_line (length front) b ≡ true) (sym flat) (begins front (13 ∷ 10 ∷ rest) is) in
    let goes : is_empty_line_at (length front + 1) all ≡ true = rw (feed, back, start) refl in
    subst (λ k. is_empty_line_at k all ≡ true) (sym place) goes
empty_after front lf rest is =
    let all : List ℕ = (front ++ 10 ∷ []) ++ rest in
    let flat : all ≡ front ++ 10 ∷ rest = append_assoc front (10 ∷ []) rest in
    let long : length (front ++ 10 ∷ []) ≡ length front + 1 = length-append front (10 ∷ []) in
    let place : length (front ++ 10 ∷ []) - 1 ≡ length front = omega (arith, long) in
    let feed : slice_index all (length front) ≡ 10 = subst (λ b. slice_index b (length front) ≡ 10) (sym flat) (byte_behind front 10 rest) in
    let start : begins_line (length front) all ≡ true = subst (λ b. begins_line (length front) b ≡ true) (sym flat) (begins front (10 ∷ rest) is) in
    let back : before_return (length front) all ≡ length front = grind (arith, nat_tests) in
    let goes : is_empty_line_at (length front) all ≡ true = rw (feed, back, start) refl in
    subst (λ k. is_empty_line_at k all ≡ true) (sym place) goes

-- bytes in which no empty line ends behind the first from, and a section behind a front that ends a line, whose end is there
pub no_section_end : (bytes a : List ℕ) (fields : List Field) (e : LineEnd) (rest : List ℕ) (from : ℕ) → EndsLine a → bytes ≡ (a ++ print_section fields e) ++ rest
    → from < length (a ++ print_section fields e) → ((place : ℕ) → from ≤ place → place < length bytes → is_empty_line_at place bytes ≡ false) → ⊥
no_section_end bytes a fields e rest from is all behind none =
    let front : List ℕ = a ++ flat_map print_field fields in
    let whole : a ++ print_section fields e ≡ front ++ print_end e = sym (append_assoc a (flat_map print_field fields) (print_end e)) in
    let flat : bytes ≡ (front ++ print_end e) ++ rest = all ∙ ap (λ z. z ++ rest) whole in
    let ends = empty_after front e rest (ends_with_fields a is fields) in
    let place : ℕ = length (front ++ print_end e) - 1 in
    let long = ap length flat in
    let sum = length-append (front ++ print_end e) rest in
    let same = ap length whole in
    let here : is_empty_line_at place bytes ≡ true = subst (λ b. is_empty_line_at place b ≡ true) (sym flat) ends in
    let not_here = none place (omega (arith, same)) (omega (arith, same, long, sum)) in
    let both : true ≡ false = sym here ∙ not_here in
    cc both

some_end : (a : List ℕ) (e : LineEnd) → 0 < length (a ++ print_end e)
some_end a crlf = let sum = length-append a (13 ∷ 10 ∷ []) in omega (arith, sum)
some_end a lf = let sum = length-append a (10 ∷ []) in omega (arith, sum)

pub some_section : (a : List ℕ) (fields : List Field) (e : LineEnd) → 0 < length (a ++ print_section fields e)
some_section a fields e = subst (λ z. 0 < length z) (append_assoc a (flat_map print_field fields) (print_end e)) (some_end (a ++ flat_map print_field fields) e)

-- ---- chunk lines

any_in : (xs rest : List ℕ) → list_any (λ b. b == 10) (xs ++ 10 ∷ rest) ≡ true
any_in [] rest = refl
any_in (x ∷ xs) rest = by (x == 10) refl (any_in xs rest)
  where
    by : (is : Bool) → (x == 10) ≡ is → list_any (λ b. b == 10) (xs ++ 10 ∷ rest) ≡ true → list_any (λ b. b == 10) (x ∷ (xs ++ 10 ∷ rest)) ≡ true
    by true e behind = rw e refl
    by false e behind = rw e behind

-- a line feed behind the first from bytes ends a line there
ends_there : (bytes a rest : List ℕ) (from : ℕ) → bytes ≡ (a ++ 10 ∷ []) ++ rest → from ≤ length a → has_line_end from bytes ≡ true
ends_there bytes a rest from all small =
    let flat : bytes ≡ a ++ 10 ∷ rest = all ∙ append_assoc a (10 ∷ []) rest in
    let cut : drop from bytes ≡ drop from a ++ 10 ∷ rest = ap (drop from) flat ∙ drop-append-le from a (10 ∷ rest) small in
    subst (λ b. list_any (λ b. b == 10) b ≡ true) (sym cut) (any_in (drop from a) rest)

line_ends : (l : ChunkLine) → (a : List ℕ) × (print_chunk_line l ≡ a ++ 10 ∷ [])
unfolding print_chunk_line
line_ends l =
    let front : List ℕ = (l.digits ++ l.pad) ++ print_extension l.extension in
    (front ++ 13 ∷ [], sym (append_assoc front (13 ∷ []) (10 ∷ [])))

-- what stands at the front of bytes stands at that of the first of them, where these are as many
pub front_within : (bytes p rest : List ℕ) (from : ℕ) → bytes ≡ p ++ rest → length p ≤ from → (m : List ℕ) × (take from bytes ≡ p ++ m)
front_within bytes p rest from all small =
    let parts : take from bytes ++ drop from bytes ≡ p ++ rest = take-append-drop from bytes ∙ all in
    let long = ap length all in
    let sum = length-append p rest in
    let taken = length-take from bytes in
    front_of p (take from bytes) (drop from bytes) rest parts (omega (arith, long, sum, taken))

-- no line ends behind the first from bytes, and there is no chunk line in these: so there is none
pub no_line_yet : (bytes : List ℕ) (from : ℕ) → has_line_end from bytes ≡ false → (0 < from → HasNoLine (take from bytes)) → HasNoLine bytes
no_line_yet bytes from ended before = λ l rest at. by l rest at (leb_tells (length (print_chunk_line l)) from)
  where
    by : (l : ChunkLine) (rest : List ℕ) → LineAt bytes l rest → ((leb (length (print_chunk_line l)) from ≡ true) × (length (print_chunk_line l) ≤ from)) ⊎ ((leb (length (print_chunk_line l)) from ≡ false) × (from < length (print_chunk_line l))) → ⊥
    by l rest at (inl is) =
        let m = front_within bytes (print_chunk_line l) rest from at.reads.1 is.1 in
        let ends = line_ends l in
        let long = ap length ends.1 in
        let sum = length-append ends.0 (10 ∷ []) in
        let small = is.1 in
        before (omega (arith, long, sum)) l m.0 (record { reads = (at.reads.0, m.1); within = at.within })
    by l rest at (inr is) =
        let ends = line_ends l in
        let long = ap length ends.1 in
        let sum = length-append ends.0 (10 ∷ []) in
        let large = is.1 in
        let all : bytes ≡ (ends.0 ++ 10 ∷ []) ++ rest = at.reads.1 ∙ ap (λ z. z ++ rest) ends.1 in
        let there = ends_there bytes ends.0 rest from all (omega (arith, long, sum)) in
        let both : true ≡ false = sym there ∙ ended in
        cc both

-- no empty line ends behind the first from bytes, and there are no trailers in these: so there are none
pub no_trailers_yet : (bytes : List ℕ) (from : ℕ) → ((place : ℕ) → from ≤ place → place < length bytes → is_empty_line_at place bytes ≡ false)
    → (0 < from → HasNoTrailers (take from bytes)) → HasNoTrailers bytes
no_trailers_yet bytes from ended before = λ fields e rest at. by fields e rest at (leb_tells (length (print_section fields e)) from)
  where
    by : (fields : List Field) (e : LineEnd) (rest : List ℕ) → TrailersAt bytes fields e rest
        → ((leb (length (print_section fields e)) from ≡ true) × (length (print_section fields e) ≤ from)) ⊎ ((leb (length (print_section fields e)) from ≡ false) × (from < length (print_section fields e))) → ⊥
    by fields e rest at (inl is) =
        let m = front_within bytes (print_section fields e) rest from at.reads.1 is.1 in
        let some = some_section [] fields e in
        let small = is.1 in
        before (omega (arith, some)) fields e m.0 (record { reads = (at.reads.0, m.1); within = at.within; few = at.few })
    by fields e rest at (inr is) = no_section_end bytes [] fields e rest from (inl refl) at.reads.1 is.1 ended
