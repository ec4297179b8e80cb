-- The id of what a resource is shown of an upstream event: the resource's id, `-`, and the event's.
use Rattle.std.specs.Prelude.{ℕ, ◌+◌, ◌==◌, List, drop, Option, option_map, option_and_then}
use Rattle.std.specs.List.{position, before_first}
use Rattle.std.specs.Result.{result_ok}
use Rattle.adr_text.specs.Ids.{id_of}
use Rattle.adr_state.specs.declared.portfolio.Portfolio.{Portfolio}
use Rattle.adr_state.specs.declared.portfolio.Resource.{Resource}
use Rattle.adr_state.specs.Resources.{resource_with_id}

-- what stands in the id of a shown event before its first `-`
abbrev pub resource_part : List ℕ → List ℕ
resource_part id = before_first (λ b. b == 45) id

-- what stands in the id of a shown event behind its first `-`, where it has one
abbrev pub event_part : List ℕ → Option (List ℕ)
event_part id = option_map (λ i. drop (i + 1) id) (position (λ b. b == 45) id)

-- the object id that a text is
abbrev pub id_in : List ℕ → Option (List ℕ)
id_in text = result_ok (id_of text)

-- the resource whose id a text is
abbrev pub resource_named : Portfolio → List ℕ → Option (ℕ × Resource)
resource_named p text = option_and_then (λ id. resource_with_id id p) (id_in text)
