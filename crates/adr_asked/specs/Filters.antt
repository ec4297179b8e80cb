-- The query of a listing of events, of reports or of subscriptions: which of them are asked for.
use Rattle.std.specs.Prelude.{ℕ, List, [], ◌∷◌, codes, bytes_eq, Option, None, Some, option_map, Result, Ok, Err, if◌then◌else◌}
use Rattle.std.specs.List.{filter_map}
use Rattle.std.specs.Option.{option_to_list}
use Rattle.std.specs.Result.{result_ok}
use Rattle.form_urlencoded.specs.Form.{raw_pairs}
use Rattle.adr_text.specs.Names.{name_of}
use Rattle.adr_text.specs.Refusals.{◌>>=◌}
use Rattle.adr_text.specs.declared.refusal.Refusal.{Refusal}
use Rattle.adr_text.specs.declared.refusal.Refusal.TheVariants.{BadShape}
use Rattle.adr_state.specs.ShownIds.{id_in}
use Rattle.adr_queries.specs.declared.filter.EventFilter.{EventFilter}
use Rattle.adr_queries.specs.declared.filter.ReportFilter.{ReportFilter}
use Rattle.adr_queries.specs.declared.filter.TargetFilter.{TargetFilter}
use Rattle.adr_queries.specs.declared.filter.TargetFilter.TheVariants.{Any, VenName, ResourceName, Other}
use Rattle.adr_asked.specs.Queries.{values_of, only_one}

-- the program that is asked for, where one is: a value that is no id is that of none
abbrev pub programs_of : Option (List ℕ) → Option (List (List ℕ))
programs_of value = option_map (λ v. option_to_list (id_in v)) value

-- `programID` of a query, at most once: the program that is asked for, and any where none is given
unfoldable pub program_filter : List ℕ → Result (Option (List (List ℕ))) Refusal
program_filter query = only_one (values_of (codes "programID") (raw_pairs query)) >>= λ value. Ok (programs_of value)

-- the names among values: any other is that of none
abbrev pub name_in : List ℕ → Option (List ℕ)
name_in value = result_ok (name_of value)

-- the names among values, in their order
abbrev pub names_in : List (List ℕ) → List (List ℕ)
names_in values = filter_map name_in values

-- what a type with its values asks for: the names among them, of vens or resources; another type is that of no event
abbrev pub target_of : List ℕ → List (List ℕ) → TargetFilter
target_of type values =
    if bytes_eq type (codes "VEN_NAME") then VenName (names_in values)
    else (if bytes_eq type (codes "RESOURCE_NAME") then ResourceName (names_in values)
    else Other)

-- a type and its values, or neither
unfoldable pub target_asked : Option (List ℕ) → List (List ℕ) → Result TargetFilter Refusal
target_asked None [] = Ok Any
target_asked None (v ∷ vs) = Err BadShape
target_asked (Some type) [] = Err BadShape
target_asked (Some type) (v ∷ vs) = Ok (target_of type (v ∷ vs))

-- `targetType` of a query, at most once, with its `targetValues`, or neither
unfoldable pub target_filter : List ℕ → Result TargetFilter Refusal
target_filter query = only_one (values_of (codes "targetType") (raw_pairs query)) >>= λ type. target_asked type (values_of (codes "targetValues") (raw_pairs query))

-- `programID`, and `targetType` with `targetValues`, which alone may be given more than once
unfoldable pub filter_asked : List ℕ → Result EventFilter Refusal
filter_asked query = do
  programs ← program_filter query
  target ← target_filter query
  Ok (record { programs = programs; target = target })

-- the client that is asked for, where one is: a value that is no name is that of none
abbrev pub clients_of : Option (List ℕ) → Option (List (List ℕ))
clients_of value = option_map (λ v. option_to_list (name_in v)) value

-- `clientName` of a query, at most once: the client that is asked for, and any where none is given
unfoldable pub client_filter : List ℕ → Result (Option (List (List ℕ))) Refusal
client_filter query = only_one (values_of (codes "clientName") (raw_pairs query)) >>= λ value. Ok (clients_of value)

-- `programID` and `clientName`, of reports and of subscriptions, each at most once
unfoldable pub report_filter_asked : List ℕ → Result ReportFilter Refusal
report_filter_asked query = do
  programs ← program_filter query
  clients ← client_filter query
  Ok (record { programs = programs; clients = clients })
