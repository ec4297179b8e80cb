-- Which events, which reports and which subscriptions a query wants.
use Rattle.std.specs.Prelude.{ℕ, Bool, true, false, ◌&&◌, List, filter, Option, None, Some}
use Rattle.std.specs.List.{list_any}
use Rattle.std.specs.Option.{option_map_or}
use Rattle.std.specs.Str.{bytes_eq}
use Rattle.adr_queries.specs.declared.answer.Object.{Object}
use Rattle.adr_queries.specs.declared.answer.Object.TheVariants as object
use Rattle.adr_queries.specs.declared.filter.EventFilter.{EventFilter}
use Rattle.adr_queries.specs.declared.filter.ReportFilter.{ReportFilter}
use Rattle.adr_queries.specs.declared.filter.TargetFilter.{TargetFilter}
use Rattle.adr_queries.specs.declared.filter.TargetFilter.TheVariants.{Any, VenName, ResourceName, Other}

-- the text is one of these, byte by byte
abbrev pub is_among : List (List ℕ) → List ℕ → Bool
is_among texts text = list_any (λ t. bytes_eq t text) texts

-- where nothing is said, it may be any
abbrev pub is_among_all : Option (List (List ℕ)) → List ℕ → Bool
is_among_all None text = true
is_among_all (Some texts) text = is_among texts text

-- whether an event of a ven and of a resource of these names is of one of the names that are wanted; no event has a target of
-- another type
abbrev pub has_target : TargetFilter → List ℕ → List ℕ → Bool
has_target Any ven_name resource_name = true
has_target (VenName names) ven_name resource_name = is_among names ven_name
has_target (ResourceName names) ven_name resource_name = is_among names resource_name
has_target Other ven_name resource_name = false

-- whether an event of this program, and of a ven and of a resource of these names, is of the programs and of the target that
-- are wanted, where any are asked for
abbrev pub wants : EventFilter → List ℕ → List ℕ → List ℕ → Bool
wants f program ven_name resource_name = is_among_all f.programs program && has_target f.target ven_name resource_name

-- whether an object is an event that is wanted
abbrev pub is_wanted : EventFilter → Object → Bool
is_wanted f (object.Event e) = wants f e.program e.ven_name e.resource_name
is_wanted f _ = false

-- the events among objects that are wanted, in their order
abbrev pub wanted_of : EventFilter → List Object → List Object
wanted_of f objects = filter (is_wanted f) objects

-- whether an object is a report of the programs and of the clients that are wanted, where any are asked for
abbrev pub is_wanted_report : ReportFilter → Object → Bool
is_wanted_report f (object.Report r) = is_among_all f.programs r.body.head.program && is_among_all f.clients r.body.head.client
is_wanted_report f _ = false

-- the reports among objects that are wanted, in their order
abbrev pub wanted_reports : ReportFilter → List Object → List Object
wanted_reports f objects = filter (is_wanted_report f) objects

-- whether it names one of the programs, where something is said of them; what is about all programs names none
abbrev pub is_about : Option (List (List ℕ)) → Option (List ℕ) → Bool
is_about None program = true
is_about (Some programs) program = option_map_or (is_among programs) program false

-- whether an object is a subscription that names one of the programs, and of the clients, that are asked for, where
-- any are
abbrev pub is_wanted_sub : ReportFilter → Object → Bool
is_wanted_sub f (object.Sub s) = is_about f.programs s.sub.program && is_among_all f.clients s.sub.client_name
is_wanted_sub f _ = false

-- the subscriptions among objects that are wanted, in their order
abbrev pub wanted_subs : ReportFilter → List Object → List Object
wanted_subs f objects = filter (is_wanted_sub f) objects
