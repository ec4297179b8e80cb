-- What a test tells of what it tested.
use Rattle.std.proofs.Common.{◌≡◌, Bool, true, false, cond, Result, Err}
use Rattle.adr_text.specs.Refusals.{IsRefusalOf}
use Rattle.adr_text.specs.declared.refusal.Refusal.{Refusal}
use Rattle.adr_text.specs.declared.refusal.Refusal.TheVariants.{Forbidden}

-- what is refused behind a test that passes is refused as a whole
pub behind : {A : Type 0} (may : Bool) (r : Result A Refusal) (e : Refusal) → may ≡ true → IsRefusalOf e r → IsRefusalOf e (cond may r (Err Forbidden))
behind true r e passes h = h
behind false r e passes h = absurd cc
