-- A resource by its number, under the ven of another.
use Rattle.std.specs.Prelude.{ℕ, ◌||◌, ◌==◌, Bool, not, Option, None, Some, if◌then◌else◌}
use Rattle.adr_state.specs.declared.portfolio.Resource.{Resource}

-- the resource, where it belongs to that ven, which is there
abbrev pub found_under : ℕ → Option Resource → ℕ → Bool → Option (ℕ × Resource)
found_under n None owner is_there = None
found_under n (Some resource) owner is_there = if not is_there || not (owner == resource.ven) then None else Some (n, resource)
