-- Faults: why a JSON value is not read as a type, and the refusal that each becomes.
use Rattle.std.specs.Prelude.{◌≡◌, Result, Ok, Err}
use Rattle.adr_text.specs.declared.fault.Fault.{Fault}
use Rattle.adr_text.specs.declared.fault.Fault.TheVariants.{OutOfMemory, Fraction, NotOne, Repeated, OutOfRange, BadShape}
use Rattle.adr_text.specs.declared.refusal.Refusal.{Refusal}
use Rattle.adr_text.specs.declared.refusal.Refusal.TheVariants as refusal

-- the refusal of who posts such a value
abbrev pub refusal_of : Fault → Refusal
refusal_of OutOfMemory = refusal.OutOfMemory
refusal_of Fraction = refusal.NotWhole
refusal_of NotOne = refusal.BadShape
refusal_of Repeated = refusal.BadShape
refusal_of OutOfRange = refusal.NotWhole
refusal_of BadShape = refusal.BadShape

-- a reading whose fault is told as a refusal
abbrev pub as_refusal : {A : Type 0} → Result A Fault → Result A Refusal
as_refusal (Ok x) = Ok x
as_refusal (Err e) = Err (refusal_of e)

-- a text that was refused as a value of its type has the wrong shape
abbrev pub as_fault : {A : Type 0} → Result A Refusal → Result A Fault
as_fault (Ok x) = Ok x
as_fault (Err e) = Err BadShape

-- the fault is what reading gives, or memory ran out
abbrev pub Lacks : {Y : Type 0} → Fault → Result Y Fault → Type 0
Lacks OutOfMemory reading = Unit {0}
Lacks fault reading = reading ≡ Err fault

-- what a function returned, seen by view, is what reading gives, unless memory ran out
abbrev pub Finds : {X Y : Type 0} → (X → Y) → Result X Fault → Result Y Fault → Type 0
Finds view (Ok x) reading = reading ≡ Ok (view x)
Finds view (Err e) reading = Lacks e reading
