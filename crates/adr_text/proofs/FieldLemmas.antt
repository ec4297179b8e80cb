-- Readers of fields.
use Rattle.std.proofs.Common.{◌≡◌, ℕ, Bool, true, false, cond, List, [], ◌∷◌, Option, None, Err, refl, ap}
use Rattle.std.specs.Str.{IsUtf8, is_utf8}
use Rattle.std.proofs.lemmas.Str.{IsUtf8-from_is_utf8}
use Rattle.std.proofs.lemmas.List.Folds.{list_all-map}
use Rattle.serde_json.specs.Data.{Data}
use Rattle.serde_json.specs.View.{items_of}
use Rattle.adr_text.specs.Refusals.{or_else}
use Rattle.adr_text.specs.Fields.{list_of}
use Rattle.adr_text.specs.declared.fault.Fault.TheVariants.{BadShape}

pub ruleset rules_of_objects = (list_all-map)

pub list_of-items_of : (ds : List Data) → list_of (items_of ds) ≡ ds
list_of-items_of [] = refl
list_of-items_of (d ∷ ds) = ap (λ (rest : List Data). d ∷ rest) (list_of-items_of ds)

-- bytes that are no text, or a text that is no JSON
pub refused_by : (bytes : List ℕ) (o : Option Data) (b : Bool) → is_utf8 bytes ≡ b → (IsUtf8 bytes → o ≡ None) → cond b (or_else BadShape o) (Err BadShape) ≡ Err BadShape
refused_by bytes o true e none = rw (none (IsUtf8-from_is_utf8 bytes e)) refl
refused_by bytes o false e none = refl
