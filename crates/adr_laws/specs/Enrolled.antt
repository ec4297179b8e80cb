-- Who takes part in an event, as the profile says it: numbers with weights, and nothing of vens.
use Rattle.std.specs.Prelude.{ℕ, List, Option, None, option_map, if◌then◌else◌}
use Rattle.std.specs.List.{filter_map}
use Rattle.std.specs.Map.{keys_of, values_of}
use Rattle.adr_objects.specs.declared.body.EventBody.{EventBody}
use Rattle.adr_state.specs.declared.portfolio.Portfolio.{Portfolio}
use Rattle.adr_state.specs.declared.portfolio.Resource.{Resource}
use Rattle.adr_state.specs.Frozen.{is_frozen}
use Rattle.adr_state.specs.Keys.{frozen_cmp, share_cmp, at}
use Rattle.adr_state.specs.Participants.{is_for}

-- the weight that a resource has in the event of an id: of one that is frozen that which is kept for it, and else its share in the event's program, where the event has no resource target or one of its name
abbrev pub weight_in : Portfolio → List ℕ → EventBody → ℕ × Resource → Option ℕ
weight_in p id event r =
    if is_frozen p id then at frozen_cmp (record { event = id; resource = r.0 }) p.frozen_shares
    else (if is_for event.resource_names r.1.name then at share_cmp (record { program = event.program; resource = r.0 }) p.shares else None)

-- all resources with such a weight, in their order, each with it
abbrev pub enrolled : Portfolio → List ℕ → EventBody → List (ℕ × ℕ)
enrolled p id event = filter_map (λ r. option_map (λ weight. (r.0, weight)) (weight_in p id event r)) p.resources

-- their numbers, and their weights
abbrev pub enrolled_numbers : Portfolio → List ℕ → EventBody → List ℕ
enrolled_numbers p id event = keys_of (enrolled p id event)

abbrev pub enrolled_weights : Portfolio → List ℕ → EventBody → List ℕ
enrolled_weights p id event = values_of (enrolled p id event)
