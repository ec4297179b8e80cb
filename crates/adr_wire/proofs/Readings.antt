-- A fault that is passed on, and the start.
use Rattle.std.proofs.Common.{◌≡◌, ℕ, List, [], ◌++◌, refl, sym, ◌∙◌, ap, subst, IsTrue, Option, None, Some, Result, Err}
use Rattle.std.specs.Io.KnownBytes.{Keeps}
use Rattle.adr_wire.specs.declared.end.MessageFault.{MessageFault}
use Rattle.adr_wire.specs.declared.end.ReadEnd.{ReadEnd}
use Rattle.adr_wire.specs.declared.end.ReadEnd.TheVariants.{Bytes, Reader, OutOfMemory}
use Rattle.adr_wire.specs.Pieces.{Holds, is_reader, reader_failed, OnFault, IsReading}

pub on_fault : {P R : MessageFault → Type 0} (e : ReadEnd) → ((f : MessageFault) → R f → P f) → OnFault e R → OnFault e P
on_fault (Bytes f) on h = on f h
on_fault Reader on h = tt
on_fault OutOfMemory on h = tt

-- at the exit of a `?`: what the callee says of its fault, and what that means here
pub passed_on : {A X : Type 0} (view : A → X) (P : Result X MessageFault → Type 0) {R : MessageFault → Type 0} (r : Result A ReadEnd) (e : ReadEnd)
    → r ≡ Err e → OnFault e R → ((f : MessageFault) → R f → P (Err f)) → IsReading view r P
passed_on {A} view P r e same h on =
    let Q : Result A ReadEnd → Type 0 = λ q. IsReading view q P in
    subst Q (sym same) (on_fault e on h)

-- at the exit of a `?`: the reader failed here where it failed in the callee
pub failed_there : {A : Type 0} (r : Result A ReadEnd) (e : ReadEnd) → r ≡ Err e → IsTrue (reader_failed r) → IsTrue (is_reader e)
failed_there r e same is = subst (λ q. IsTrue (reader_failed q)) same is

pub reader_is : {A : Type 0} (r : Result A ReadEnd) (e : ReadEnd) → r ≡ Err e → r ≡ Err Reader → IsTrue (is_reader e)
reader_is r e same is = failed_there r e same (subst (λ q. IsTrue (reader_failed q)) (sym is) refl)

-- a read that failed leaves what is held
pub kept_holds : (old new : Option (List ℕ)) → Keeps old new → (ahead bytes : List ℕ) → Holds old ahead bytes → Holds new ahead bytes
kept_holds None new kept ahead bytes held = elim held [ ]
kept_holds (Some xs) None kept ahead bytes held = elim kept [ ]
kept_holds (Some xs) (Some ys) kept ahead bytes held = held ∙ ap (λ z. ahead ++ z) (sym kept)

-- nothing is ahead yet
pub at_start : (left : Option (List ℕ)) (ahead bytes : List ℕ) → left ≡ Some bytes → ahead ≡ [] → Holds left ahead bytes
at_start left ahead bytes known none =
    let P : Option (List ℕ) → Type 0 = λ l. Holds l ahead bytes in
    let Q : List ℕ → Type 0 = λ a. bytes ≡ a ++ bytes in
    subst P (sym known) (subst Q (sym none) refl)
