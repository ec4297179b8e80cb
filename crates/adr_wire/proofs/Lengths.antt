-- A body of a known length.
use Rattle.std.proofs.Common.{◌≡◌, ℕ, ◌≤◌, ◌<◌, List, ◌++◌, length, take, drop, sym, ◌∙◌, ap, subst, arith, Option, None, Some, Ok, Err, length-append}
use Rattle.adr_wire.specs.Pieces.{Holds}
use Rattle.adr_wire.specs.Lengths.{body_of_length}
use Rattle.adr_wire.specs.declared.end.MessageFault.TheVariants.{Malformed}
use Rattle.std.proofs.lemmas.Bool.Decides.{nat_tests}
use Rattle.std.proofs.lemmas.Bool.{le-leb}
use Rattle.std.proofs.lemmas.List.{take-append-le, drop-append-le}

-- all of it is ahead
pub length_whole : (left : Option (List ℕ)) (ahead bytes : List ℕ) (n : ℕ) → Holds left ahead bytes → n ≤ length ahead
    → body_of_length n bytes ≡ Ok (take n ahead)
length_whole None ahead bytes n holds enough = elim holds [ ]
length_whole (Some left) ahead bytes n holds enough =
    let P : List ℕ → Type 0 = λ b. body_of_length n b ≡ Ok (take n ahead) in
    let longer : n ≤ length (ahead ++ left) = simp length-append (omega arith) in
    subst P (sym holds) (rw (le-leb n (length (ahead ++ left)) longer) (ap Ok (take-append-le n ahead left enough)))

-- the end came first
pub length_cut : (bytes : List ℕ) (n : ℕ) → length bytes < n → body_of_length n bytes ≡ Err Malformed
length_cut bytes n less = grind (arith, nat_tests)

pub after_front : (left : Option (List ℕ)) (ahead bytes : List ℕ) (n : ℕ) → Holds left ahead bytes → n ≤ length ahead
    → Holds left (drop n ahead) (drop n bytes)
after_front None ahead bytes n holds enough = elim holds [ ]
after_front (Some left) ahead bytes n holds enough = ap (drop n) holds ∙ drop-append-le n ahead left enough
