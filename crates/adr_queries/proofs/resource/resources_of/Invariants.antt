use Rattle.std.proofs.Common.{◌≡◌, ◌==◌, ◌++◌, map, filter}
use Rattle.adr_queries.specs.declared.answer.Object.TheVariants as object
use Rattle.adr_state.specs.Resources.{resource_object}
use Rattle.adr_queries.specs.Listings.{resources_of}
use Rattle.adr_queries.proofs.resource.resources_of.Given as goal

-- the resources so far, and those that are left
abbrev pub invariant-loop-number : goal.invariant-loop-number
invariant-loop-number l = l.all.items ++ map (λ r. object.Resource (resource_object r)) (filter (λ r. r.1.ven == l.ven) l.number-iterator) ≡ resources_of l.base l.ven
