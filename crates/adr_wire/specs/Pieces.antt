-- Bytes that come in pieces: what is ahead of a source, and what is left in it.
use Rattle.std.specs.Prelude.{◌≡◌, ℕ, ◌+◌, ◌⊎◌, ⊤, Bool, true, false, IsTrue, IsFalse, List, ◌++◌, Option, Some, None, Result, Ok, Err}
use Rattle.adr_text.specs.Calls.{Calls}
use Rattle.adr_wire.specs.Calls.{NoneFails, LastFails}
use Rattle.adr_wire.specs.declared.end.ReadEnd.{ReadEnd}
use Rattle.adr_wire.specs.declared.end.MessageFault.{MessageFault}
use Rattle.adr_wire.specs.declared.end.ReadEnd.TheVariants.{Bytes, Reader, OutOfMemory}

-- the bytes that were read and not yet used, and how many reads may still be made
pub record Waiting : Type 0 where
  pub bytes : List ℕ
  pub reads_left : ℕ

-- all the bytes that have not been used: those ahead, and then those left in a source that tells them
abbrev pub Holds : Option (List ℕ) → List ℕ → List ℕ → Type 0
Holds None ahead bytes = ⊥
Holds (Some left) ahead bytes = bytes ≡ ahead ++ left

-- P of what had come as a call ended: of the bytes that were held before it, all but those that are left after it
abbrev pub OfWhatCame : Option (List ℕ) → List ℕ → Option (List ℕ) → (List ℕ → Type 0) → Type 0
OfWhatCame left ahead left_after P = (bytes : List ℕ) → Holds left ahead bytes → (came : List ℕ) × Holds left_after came bytes × P came

-- it is a reader's fault
abbrev pub is_reader : ReadEnd → Bool
is_reader (Bytes f) = false
is_reader Reader = true
is_reader OutOfMemory = false

-- it ended as a reader's fault
abbrev pub reader_failed : {A : Type 0} → Result A ReadEnd → Bool
reader_failed (Ok a) = false
reader_failed (Err e) = is_reader e

-- Each call takes one from those that may be made; a reader's fault follows at once where one failed, or where none may be made any more, and nothing else does.
pub record IsCounted (old : Calls) (may : ℕ) (new : Calls) (may_after : ℕ) (fault : Bool) : Type 0 where
  pub sum : new.made + may_after ≡ old.made + may
  pub good : IsFalse fault → NoneFails old new
  pub bad : IsTrue fault → LastFails old new ⊎ ((may_after ≡ 0) × NoneFails old new)

-- ---- what was read

-- P of the fault, if the bytes are refused
abbrev pub OnFault : ReadEnd → (MessageFault → Type 0) → Type 0
OnFault (Bytes f) P = P f
OnFault Reader P = ⊤
OnFault OutOfMemory P = ⊤

-- P of the fault, if a call answered that the bytes are refused
abbrev pub IfRefused : {A : Type 0} → Result A ReadEnd → (MessageFault → Type 0) → Type 0
IfRefused (Ok a) P = ⊤
IfRefused (Err e) P = OnFault e P

-- What a function answered, seen by view, is what is read, as P says it of a value and of a fault.
-- Nothing is said where the reader failed or memory ran out.
abbrev pub IsReading : {A X : Type 0} → (A → X) → Result A ReadEnd → (Result X MessageFault → Type 0) → Type 0
IsReading view (Ok a) P = P (Ok (view a))
IsReading view (Err e) P = OnFault e (λ f. P (Err f))
