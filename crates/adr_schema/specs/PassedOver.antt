-- The targets of an event that are passed over, since they name no resources.
use Rattle.std.specs.Prelude.{ℕ, ◌+◌, List, [], ◌∷◌, codes, Bool, true, false, Option, Some, None, option_and_then, unwrap_or, Result, Ok, Err, if◌then◌else◌}
use Rattle.std.specs.Result.{result_ok}
use Rattle.serde_json.specs.Data.{Data}
use Rattle.adr_text.specs.Fields.{member_of}
use Rattle.adr_text.specs.declared.fault.Fault.{Fault}
use Rattle.adr_schema.specs.Events.{is_of_type, typed_in, resource_target, names_among}
use Rattle.adr_schema.specs.declared.passed_over.TargetType.{TargetType}
use Rattle.adr_schema.specs.declared.passed_over.TargetType.TheVariants as type
use Rattle.adr_schema.specs.declared.passed_over.PassedTarget.{PassedTarget}

-- the targets of an event, none where they are absent or not read
abbrev pub targets_of : Data → List Data
targets_of d = unwrap_or (option_and_then (λ targets. result_ok (typed_in targets)) (member_of (codes "targets") d)) []

-- which of the standard's types a target has, but for the one that is read
abbrev pub type_of_target : Data → TargetType
type_of_target d =
    if is_of_type (codes "VEN_NAME") d then type.VenName
    else (if is_of_type (codes "GROUP") d then type.Group
    else (if is_of_type (codes "SERVICE_AREA") d then type.ServiceArea
    else (if is_of_type (codes "PROGRAM_NAME") d then type.ProgramName
    else (if is_of_type (codes "EVENT_NAME") d then type.EventName
    else (if is_of_type (codes "POWER_SERVICE_LOCATION") d then type.PowerServiceLocation
    else type.Another)))))

-- the targets that do not name resources, by number and type, the first target having that number
abbrev pub passed_over : ℕ → List Data → List PassedTarget
passed_over number [] = []
passed_over number (d ∷ ds) =
    if resource_target d then passed_over (number + 1) ds
    else record { number = number; type_name = type_of_target d } ∷ passed_over (number + 1) ds

-- nothing is named
abbrev pub names_none : Result (Option (List (List ℕ))) Fault → Bool
names_none (Ok None) = true
names_none (Ok (Some names)) = false
names_none (Err fault) = false

-- an event goes to everybody though it has targets: none of them names resources
abbrev pub goes_to_everybody : List Data → Bool
goes_to_everybody [] = false
goes_to_everybody (d ∷ ds) = names_none (names_among (d ∷ ds))
