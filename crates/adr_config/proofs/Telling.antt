-- What is told where one of several members is wrong.
use Rattle.std.proofs.Common.{◌≡◌, Result, Ok, Err, IsErrAnd, refl, sym, subst}
use Rattle.adr_text.specs.Refusals.{◌>>=◌}
use Rattle.adr_text.specs.declared.fault.Fault.{Fault}
use Rattle.adr_config.specs.Tellings.{Misses, Tells}
use Rattle.adr_config.specs.declared.fault.ConfigFault.{ConfigFault}
use Rattle.adr_config.specs.declared.fault.ConfigFault.TheVariants.{OutOfMemory, NoObject, Wrong}

-- where a step finds nothing, neither do those behind it
pub misses_then : {X Y : Type 0} (e : ConfigFault) (r : Result X Fault) (f : X → Result Y Fault) → Misses e r → Misses e (r >>= f)
misses_then OutOfMemory r f misses = tt
misses_then NoObject (Ok x) f misses = absurd cc
misses_then NoObject (Err fault) f misses = refl
misses_then (Wrong wrong) (Ok x) f misses = absurd cc
misses_then (Wrong wrong) (Err fault) f misses = refl

-- a step that found nothing is what is told
pub tells_on : {X Y : Type 0} (view : X → Y) (r : Result X ConfigFault) (e : ConfigFault) (reading : Result Y Fault) → IsErrAnd r (λ f. f ≡ e) → Misses e reading → Tells view r reading
tells_on view (Ok x) e reading is misses = absurd is
tells_on view (Err f) e reading is misses = subst (λ f. Misses f reading) (sym is) misses
