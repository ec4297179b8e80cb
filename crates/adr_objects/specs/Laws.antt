-- That fractions are no setpoints, and that canonical texts read back.
use Rattle.std.specs.Prelude.{◌≡◌, Float, Ok, Err}
use Rattle.serde_json.specs.Data.{number, float}
use Rattle.adr_text.specs.declared.fault.Fault.TheVariants.{Fraction}
use Rattle.adr_objects.specs.declared.body.Body.{Body}
use Rattle.adr_objects.specs.Fields.{setpoint_in}
use Rattle.adr_objects.specs.Canonical.{canonical_text}
use Rattle.adr_objects.specs.ReadBack.{canonical_of}
use Rattle.adr_objects.specs.Bodies.{IsBody}

-- a number with a point or an exponent is no setpoint, also where its value is whole
abbrev pub FractionsAreRefused : Type 0
FractionsAreRefused = (x : Float) → setpoint_in (number (float x)) ≡ Err Fraction

-- the canonical text of each body that the types admit reads back as that body
abbrev pub CanonicalTextsReadBack : Type 0
CanonicalTextsReadBack = (b : Body) → IsBody b → canonical_of (canonical_text b) ≡ Ok b

-- two bodies that the types admit, of one canonical text, are one
abbrev pub CanonicalTextsDiffer : Type 0
CanonicalTextsDiffer = (a b : Body) → IsBody a → IsBody b → canonical_text a ≡ canonical_text b → a ≡ b
