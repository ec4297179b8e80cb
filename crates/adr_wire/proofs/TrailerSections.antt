-- Trailers, from what the parser says of a part of the bytes.
use Rattle.std.proofs.Common.{◌≡◌, ℕ, ◌≤◌, List, ◌++◌, length, drop, refl, sym, subst, arith, Option, None, Some}
use Rattle.httparse.specs.Grammar.{Field, LineEnd, print_section, ReadsSection, HasNoSection}
use Rattle.httparse.specs.declared.spans.HeaderSpan.{HeaderSpan}
use Rattle.httparse.specs.Spans.{IsSectionWithin, IsSectionOf, SectionOverflows}
use Rattle.httparse.proofs.GrammarLemmas.{ReadsSection-append}
use Rattle.adr_wire.specs.Pieces.{Holds}
use Rattle.adr_wire.specs.Chunks.{TrailersAt, HasNoTrailers, TrailersFound}
use Rattle.adr_wire.proofs.Fronts.{front_of, few_fields}

pub no_trailers_err : (ahead more : List ℕ) → SectionOverflows 64 ahead → HasNoTrailers (ahead ++ more)
no_trailers_err ahead more over = λ fields end rest at.
    let many = over more fields end rest at.reads in
    let few = at.few in
    omega arith

pub no_trailers_end : (bytes : List ℕ) → HasNoSection bytes → HasNoTrailers bytes
no_trailers_end bytes none = λ fields end rest at. none fields end rest at.reads

pub no_trailers_full : (ahead more : List ℕ) → HasNoSection ahead → length ahead ≡ 16384 → HasNoTrailers (ahead ++ more)
no_trailers_full ahead more none full = λ fields end rest at.
    let small : length (print_section fields end) ≤ length ahead = let w = at.within in omega arith in
    let m = front_of (print_section fields end) ahead more rest at.reads.1 small in
    none fields end m.0 (at.reads.0, m.1)

pub trailers_found : (bytes : List ℕ) (headers : List HeaderSpan) (found : ℕ × ℕ) → length headers ≡ 64
    → IsSectionWithin bytes headers found.0 found.1 → IsSectionOf bytes 0 headers found → TrailersFound bytes found.0
trailers_found bytes headers found room within of =
    let at = of.2 in
    record {
      fields = of.0;
      end = of.1;
      reads = at.reads;
      long = let is = at.len_is in omega (arith, is);
      fits = within.len_fits;
      few = few_fields bytes headers found.1 of.0 room at.fields_are;
    }

pub trailers_at : (left : Option (List ℕ)) (ahead bytes : List ℕ) (size : ℕ) → Holds left ahead bytes → length ahead ≤ 16384 → TrailersFound ahead size
    → (fields : List Field) × (end : LineEnd) × (rest : List ℕ) × TrailersAt bytes fields end rest × Holds left (drop size ahead) rest
trailers_at None ahead bytes size holds limit found = elim holds [ ]
trailers_at (Some left) ahead bytes size holds limit found =
    let P : List ℕ → Type 0 = λ b. ReadsSection b found.fields found.end (drop size ahead ++ left) in
    let long = found.long in
    let fits = found.fits in (
      found.fields,
      found.end,
      drop size ahead ++ left,
      record {
        reads = subst P (sym holds) (ReadsSection-append ahead found.fields found.end (drop size ahead) left found.reads);
        within = omega arith;
        few = found.few;
      },
      refl,
    )
