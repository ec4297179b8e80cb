-- Readings that stop at a fault, or for want of memory.
use Rattle.std.specs.Prelude.{◌≡◌, Result, Ok, Err}
use Rattle.adr_text.specs.declared.fault.Fault.{Fault}
use Rattle.adr_schema.specs.declared.flaw.Flaw.{Flaw}
use Rattle.adr_schema.specs.declared.place.Place.{Place}
use Rattle.adr_schema.specs.declared.stopped.Stopped.{Stopped}
use Rattle.adr_schema.specs.declared.stopped.Stopped.TheVariants.{OutOfMemory, At}
use Rattle.adr_schema.specs.Flaws.{fault_of}

-- it stopped at that fault there, or memory ran out
abbrev pub IsStop : Place → Fault → Stopped → Type 0
IsStop place fault OutOfMemory = Unit {0}
IsStop place fault (At defect) = (fault_of defect.flaw ≡ fault) × (defect.place ≡ place)

-- it stopped at that flaw there
abbrev pub flawed_at : Place → Flaw → Stopped
flawed_at place flaw = At (record { place = place; flaw = flaw })

-- what stopped it is the fault that reading gives, at that place, or memory ran out
abbrev pub StopsAt : {Y : Type 0} → Place → Stopped → Result Y Fault → Type 0
StopsAt place OutOfMemory reading = Unit {0}
StopsAt place (At defect) reading = (reading ≡ Err (fault_of defect.flaw)) × (defect.place ≡ place)

-- what a function returned, seen by view, is what reading gives, with its fault at that place, unless memory ran out
abbrev pub FindsAt : {X Y : Type 0} → Place → (X → Y) → Result X Stopped → Result Y Fault → Type 0
FindsAt place view (Ok x) reading = reading ≡ Ok (view x)
FindsAt place view (Err stopped) reading = StopsAt place stopped reading
