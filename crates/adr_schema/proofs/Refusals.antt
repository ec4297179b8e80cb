-- A reading that is told as a refusal.
use Rattle.std.proofs.Common.{Result, Ok, Err, ap}
use Rattle.adr_text.specs.Faults.{Finds, as_refusal}
use Rattle.adr_text.specs.Refusals.{Gives}
use Rattle.adr_text.specs.declared.fault.Fault.{Fault}
use Rattle.adr_text.specs.declared.fault.Fault.TheVariants.{OutOfMemory, Fraction, NotOne, Repeated, OutOfRange, BadShape}

pub told_gives : {X Y : Type 0} (view : X → Y) (found : Result X Fault) (reading : Result Y Fault) → Finds view found reading → Gives view (as_refusal found) (as_refusal reading)
told_gives view (Ok x) reading h = ap as_refusal h
told_gives view (Err OutOfMemory) reading h = tt
told_gives view (Err Fraction) reading h = ap as_refusal h
told_gives view (Err NotOne) reading h = ap as_refusal h
told_gives view (Err Repeated) reading h = ap as_refusal h
told_gives view (Err OutOfRange) reading h = ap as_refusal h
told_gives view (Err BadShape) reading h = ap as_refusal h
