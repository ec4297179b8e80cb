-- When bytes begin with no head of a reply, from what the parser says of a part of them.
use Rattle.std.proofs.Common.{◌≡◌, ◌⊎◌, inl, inr, ℕ, ◌<◌, ◌≤◌, true, false, leb, List, ◌∷◌, ◌++◌, length, take, drop, refl, sym, ◌∙◌, ap, subst, arith, Option, None, Some, Result, Err}
use Rattle.std.proofs.lemmas.Bool.Decides.{leb_tells}
use Rattle.httparse.specs.Grammar.{ResponseHead, print_response, print_blank, print_version, print_reason, print_end, print_section, ReadsResponse, HasNoResponse}
use Rattle.httparse.specs.Spans.{IsResponseAt, ResponseOverflows}
use Rattle.httparse.specs.declared.spans.HeaderSpan.{HeaderSpan}
use Rattle.httparse.specs.declared.spans.ResponseSpans.{ResponseSpans}
use Rattle.httparse.proofs.GrammarLemmas.{ReadsResponse-append}
use Rattle.adr_wire.specs.Pieces.{Holds, OnFault, IfRefused}
use Rattle.adr_wire.specs.declared.end.MessageFault.{MessageFault}
use Rattle.adr_wire.specs.declared.end.ReadEnd.{ReadEnd}
use Rattle.adr_wire.proofs.Readings.{on_fault}
use Rattle.adr_wire.specs.Lines.{is_empty_line_at}
use Rattle.adr_wire.proofs.Fronts.{front_of, few_fields}
use Rattle.adr_wire.proofs.LineEnds.{EndsLine, ends_with_end, front_within, some_section, no_section_end}
use Rattle.adr_link.specs.ReplyHeads.{HeadAt, HasNoHead, HeadFound}

-- an error: whatever follows, there are more fields than there is room for
pub no_head_err : (ahead more : List ℕ) → ResponseOverflows 64 ahead → HasNoHead (ahead ++ more)
no_head_err ahead more over = λ h rest at.
    let many = over more h rest at.reads in
    let few = at.few in
    omega arith

-- partial, and all bytes have come
pub no_head_end : (bytes : List ℕ) → HasNoResponse bytes → HasNoHead bytes
no_head_end bytes none = λ h rest at. none h rest at.reads

-- partial, and 16 KiB have come
pub no_head_full : (ahead more : List ℕ) → HasNoResponse ahead → length ahead ≡ 16384 → HasNoHead (ahead ++ more)
no_head_full ahead more none full = λ h rest at.
    let small : length (print_response h) ≤ length ahead = let w = at.within in omega arith in
    let m = front_of (print_response h) ahead more rest at.reads.1 small in
    none h m.0 (at.reads.0, m.1)

-- what stands before the fields ends a line
response_front : (h : ResponseHead) → (a : List ℕ) × EndsLine a × (print_response h ≡ a ++ print_section h.fields h.last)
unfolding print_response
response_front h =
    let a : List ℕ = ((print_blank h.blank ++ print_version h.minor) ++ 32 ∷ h.digits) ++ print_reason h.reason in
    (a ++ print_end h.line_end, ends_with_end a h.line_end, refl)

-- no empty line ends behind the first from bytes, and there is no head in these: so there is none
pub no_head_yet : (bytes : List ℕ) (from : ℕ) → ((place : ℕ) → from ≤ place → place < length bytes → is_empty_line_at place bytes ≡ false)
    → (0 < from → HasNoHead (take from bytes)) → HasNoHead bytes
no_head_yet bytes from ended before = λ h rest at. by h rest at (leb_tells (length (print_response h)) from)
  where
    by : (h : ResponseHead) (rest : List ℕ) → HeadAt bytes h rest
        → ((leb (length (print_response h)) from ≡ true) × (length (print_response h) ≤ from)) ⊎ ((leb (length (print_response h)) from ≡ false) × (from < length (print_response h))) → ⊥
    by h rest at (inl is) =
        let m = front_within bytes (print_response h) rest from at.reads.1 is.1 in
        let front = response_front h in
        let long = ap length front.2 in
        let some = some_section front.0 h.fields h.last in
        let small = is.1 in
        before (omega (arith, long, some)) h m.0 (record { reads = (at.reads.0, m.1); within = at.within; few = at.few })
    by h rest at (inr is) =
        let front = response_front h in
        let large = is.1 in
        let long = ap length front.2 in
        no_section_end bytes front.0 h.fields h.last rest from front.1 (at.reads.1 ∙ ap (λ z. z ++ rest) front.2) (omega (arith, long)) ended

-- at the exit of a `?`
pub refused_on : {A : Type 0} (P : MessageFault → Type 0) {R : MessageFault → Type 0} (r : Result A ReadEnd) (e : ReadEnd)
    → r ≡ Err e → OnFault e R → ((f : MessageFault) → R f → P f) → IfRefused r P
refused_on {A} P r e same h on =
    let Q : Result A ReadEnd → Type 0 = λ q. IfRefused q P in
    subst Q (sym same) (on_fault e on h)

-- the head that was found, and what follows it
pub head_at : (left : Option (List ℕ)) (ahead bytes : List ℕ) (headers : List HeaderSpan) (spans : ResponseSpans) (h : ResponseHead)
    → Holds left ahead bytes → length ahead ≤ 16384 → HeadFound ahead headers spans
    → IsResponseAt ahead headers spans h → (rest : List ℕ) × HeadAt bytes h rest × Holds left (drop spans.len ahead) rest
head_at None ahead bytes headers spans h holds limit found at = elim holds [ ]
head_at (Some left) ahead bytes headers spans h holds limit found at =
    let P : List ℕ → Type 0 = λ b. ReadsResponse b h (drop spans.len ahead ++ left) in
    let len = at.len in
    let fits = found.within.section.len_fits in (
      drop spans.len ahead ++ left,
      record {
        reads = subst P (sym holds) (ReadsResponse-append ahead h (drop spans.len ahead) left at.reads);
        within = omega arith;
        few = few_fields ahead headers spans.headers h.fields found.room at.fields;
      },
      refl,
    )
