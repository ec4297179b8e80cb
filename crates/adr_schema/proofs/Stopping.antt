-- Where a reading stops, told with its place.
use Rattle.std.proofs.Common.{◌≡◌, Result, Err}
use Rattle.adr_text.specs.Faults.{Lacks}
use Rattle.adr_text.specs.declared.fault.Fault.{Fault}
use Rattle.adr_schema.specs.declared.flaw.Flaw.{Flaw}
use Rattle.adr_schema.specs.declared.flaw.Flaw.TheVariants.{NotWhole, Beyond, OutOfRange, Twice, Several, Count, Shape}
use Rattle.adr_schema.specs.declared.place.Place.{Place}
use Rattle.adr_schema.specs.declared.stopped.Stopped.{Stopped}
use Rattle.adr_schema.specs.declared.stopped.Stopped.TheVariants.{OutOfMemory, At}
use Rattle.adr_schema.specs.Flaws.{fault_of}
use Rattle.adr_schema.specs.Stops.{IsStop, StopsAt}

-- no flaw is want of memory
pub lacks_flaw : {Y : Type 0} (flaw : Flaw) (reading : Result Y Fault) → (Lacks (fault_of flaw) reading → reading ≡ Err (fault_of flaw)) × (reading ≡ Err (fault_of flaw) → Lacks (fault_of flaw) reading)
lacks_flaw NotWhole reading = (λ h. h, λ h. h)
lacks_flaw Beyond reading = (λ h. h, λ h. h)
lacks_flaw OutOfRange reading = (λ h. h, λ h. h)
lacks_flaw Twice reading = (λ h. h, λ h. h)
lacks_flaw Several reading = (λ h. h, λ h. h)
lacks_flaw (Count n) reading = (λ h. h, λ h. h)
lacks_flaw (Shape s) reading = (λ h. h, λ h. h)

-- a fault that a reading gives, told at a place
pub stops_at : {Y : Type 0} (place : Place) (fault : Fault) (stopped : Stopped) (reading : Result Y Fault) → IsStop place fault stopped → Lacks fault reading → StopsAt place stopped reading
stops_at place fault OutOfMemory reading stop lacks = tt
stops_at place fault (At defect) reading stop lacks = ((lacks_flaw defect.flaw reading).0 (rw stop.0 lacks), stop.1)

pub ruleset stop_rules = (stops_at)
