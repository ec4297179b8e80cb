-- An event goes to everybody where none of its targets names resources.
use Rattle.std.proofs.Common.{◌≡◌, Bool, true, false, cond, not, List, [], ◌∷◌, map, length, nat_eq, ℕ, Some, None, Result, Ok, Err, refl, ap, ◌∙◌}
use Rattle.std.specs.List.{list_any, filter}
use Rattle.serde_json.specs.Data.{Data}
use Rattle.adr_text.specs.Refusals.{◌>>=◌}
use Rattle.adr_text.specs.declared.fault.Fault.{Fault}
use Rattle.adr_objects.specs.NameSets.{name_set_of}
use Rattle.adr_schema.specs.Events.{resource_target, all_names, names_of_targets}
use Rattle.adr_schema.proofs.Reading.{list_any-map}
use Rattle.adr_schema.specs.PassedOver.{names_none, goes_to_everybody}

some_named : (r : Result (List (List ℕ)) Fault) → names_none (r >>= λ set. Ok (Some set)) ≡ false
some_named (Ok set) = refl
some_named (Err e) = refl

named : (b : Bool) (ds : List Data) → names_none (cond b (names_of_targets ds) (Ok None)) ≡ not b
named true ds = some_named (all_names ds >>= name_set_of)
named false ds = refl

pub everybody_is : {X : Type 0} (f : X → Data) (xs : List X) → nat_eq (length xs) 0 ≡ false → goes_to_everybody (map f xs) ≡ not (list_any (λ x. resource_target (f x)) xs)
everybody_is f [] some = absurd (cc)
everybody_is f (x ∷ xs) some = named (list_any resource_target (f x ∷ map f xs)) (filter resource_target (f x ∷ map f xs)) ∙ ap not (list_any-map resource_target f (x ∷ xs))

pub ruleset everybody_rules = (everybody_is)
