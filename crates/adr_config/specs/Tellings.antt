-- What is told where a member of a configuration is wrong.
use Rattle.std.specs.Prelude.{◌≡◌, IsErr, Result, Ok, Err}
use Rattle.adr_text.specs.declared.fault.Fault.{Fault}
use Rattle.adr_text.specs.declared.fault.Fault.TheVariants as fault
use Rattle.adr_config.specs.declared.fault.ConfigFault.{ConfigFault}
use Rattle.adr_config.specs.declared.fault.ConfigFault.TheVariants as told_fault
use Rattle.adr_config.specs.declared.wrong.Wrong.{Wrong}

-- of a reading that has a fault: want of memory, or that this is wrong
abbrev pub told : Fault → Wrong → ConfigFault
told fault.OutOfMemory wrong = told_fault.OutOfMemory
told other wrong = told_fault.Wrong wrong

-- memory was wanting, or reading gives nothing
abbrev pub Misses : {Y : Type 0} → ConfigFault → Result Y Fault → Type 0
Misses told_fault.OutOfMemory reading = Unit {0}
Misses other reading = IsErr reading

-- what a function returned, seen by view, is what reading gives; it tells that something is wrong only where that gives
-- nothing
abbrev pub Tells : {X Y : Type 0} → (X → Y) → Result X ConfigFault → Result Y Fault → Type 0
Tells view (Ok x) reading = reading ≡ Ok (view x)
Tells view (Err e) reading = Misses e reading
