-- Resources by their ids, as they are shown, and what is decided of them.
use Rattle.std.specs.Prelude.{ℕ, Bool, false, ◌==◌, List, Option, Some, None, option_map, option_and_then, Result, Ok, if◌then◌else◌}
use Rattle.std.specs.Ordering.{nat_cmp}
use Rattle.std.specs.Option.{option_map_or}
use Rattle.adr_text.specs.Refusals.{◌>>=◌, or_else}
use Rattle.adr_text.specs.declared.refusal.Refusal.{Refusal}
use Rattle.adr_text.specs.declared.refusal.Refusal.TheVariants.{NotFound}
use Rattle.adr_objects.specs.declared.shown.ResourceObject.{ResourceObject}
use Rattle.adr_state.specs.declared.portfolio.Portfolio.{Portfolio}
use Rattle.adr_state.specs.declared.portfolio.Resource.{Resource}
use Rattle.adr_state.specs.declared.limits.Limits.{Limits}
use Rattle.adr_state.specs.Keys.{at}
use Rattle.adr_state.specs.Digits.{number_in}
use Rattle.adr_state.specs.Names.{resource_name, is_taken, is_taken_by_another, is_full, if_new, if_free}
use Rattle.adr_state.specs.Stamping.{fresh, modified_at}
use Rattle.adr_state.specs.Portfolios.{PortfolioChange, PutResource, DropResource}
use Rattle.adr_state.specs.Vens.{ven_at}

-- the resource of an id, with its number
abbrev pub resource_with_id : List ℕ → Portfolio → Option (ℕ × Resource)
resource_with_id id p = option_and_then (λ n. option_map (λ r. (n, r)) (at nat_cmp n p.resources)) (number_in 114 id)

-- the number of the resource of an id, where it is there
abbrev pub resource_at : List ℕ → Portfolio → Option ℕ
resource_at id p = option_map (λ r. r.0) (resource_with_id id p)

-- whether a resource belongs to the ven of an id
abbrev pub is_under : List ℕ → Portfolio → Resource → Bool
is_under ven p r = option_map_or (λ n. n == r.ven) (ven_at ven p) false

-- the resource of an id, where it belongs to the ven of the other id
abbrev pub resource_under : List ℕ → List ℕ → Portfolio → Option (ℕ × Resource)
resource_under ven id p = option_and_then (λ r. if is_under ven p r.1 then Some r else None) (resource_with_id id p)

-- a resource as it is told: its number, its ven's number, its name and its stamps
abbrev pub resource_object : ℕ × Resource → ResourceObject
resource_object r = record { number = r.0; ven = r.1.ven; name = r.1.name; stamps = r.1.stamps }

-- a resource is put, and answered
abbrev pub putting_resource : ℕ → Resource → ResourceObject × PortfolioChange
putting_resource n resource = (resource_object (n, resource), PutResource n resource)

-- a new resource of a name for the ven of an id, under the number that is handed in: a ven that isn't there is 6, a
-- name that another resource has 7, and 10 where there are as many as may be
abbrev pub resource_add : Limits → ℕ → ℕ → List ℕ → List ℕ → Portfolio → Result (ResourceObject × PortfolioChange) Refusal
resource_add limits now n ven name p =
    or_else NotFound (ven_at ven p) >>= λ v. if_new (is_taken resource_name name p.resources) (is_full limits.resources p.resources) (putting_resource n (record { ven = v; name = name; stamps = fresh now }))

-- the resource has the name from now on, and stays with its ven; one of another ven than that of the id isn't there,
-- which is 6, and a name that another resource has is 7. It keeps when it was created and is modified now, also where
-- its name stays
abbrev pub resource_put : ℕ → List ℕ → List ℕ → List ℕ → Portfolio → Result (ResourceObject × PortfolioChange) Refusal
resource_put now ven id name p =
    or_else NotFound (resource_under ven id p) >>= λ r. if_free (is_taken_by_another resource_name r.0 name p.resources) (putting_resource r.0 (record { ven = r.1.ven; name = name; stamps = modified_at now r.1.stamps }))

-- the resource goes, and is answered with its old stamps: 6 where it isn't there, or belongs to another ven than that
-- of the id
abbrev pub resource_remove : List ℕ → List ℕ → Portfolio → Result (ResourceObject × PortfolioChange) Refusal
resource_remove ven id p = or_else NotFound (resource_under ven id p) >>= λ r. Ok (resource_object r, DropResource r.0)
