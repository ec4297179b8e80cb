-- What is wrong with a value, as a fault of its reading.
use Rattle.adr_text.specs.declared.fault.Fault.{Fault}
use Rattle.adr_text.specs.declared.fault.Fault.TheVariants as fault
use Rattle.adr_schema.specs.declared.flaw.Flaw.{Flaw}
use Rattle.adr_schema.specs.declared.flaw.Flaw.TheVariants.{NotWhole, Beyond, OutOfRange, Twice, Several, Count, Shape}
use Rattle.adr_schema.specs.declared.defect.Defect.{Defect}
use Rattle.adr_schema.specs.Places.{Located}

-- what is wrong with a value, as the fault of its reading
abbrev pub fault_of : Flaw → Fault
fault_of NotWhole = fault.Fraction
fault_of Beyond = fault.Fraction
fault_of OutOfRange = fault.OutOfRange
fault_of Twice = fault.Repeated
fault_of Several = fault.NotOne
fault_of (Count n) = fault.NotOne
fault_of (Shape s) = fault.BadShape

-- a fault of an object without the words for it
abbrev pub located : Defect → Located
located defect = (defect.place, fault_of defect.flaw)
