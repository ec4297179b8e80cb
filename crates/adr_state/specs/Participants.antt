-- Who takes part in an event: the resources with a share in its program, restricted to the names of its resource targets where it has such a target; and of an event that is frozen those for which a weight is kept.
use Rattle.std.specs.Prelude.{ℕ, Bool, true, List, Option, None, Some, option_map, option_and_then, if◌then◌else◌}
use Rattle.std.specs.List.{filter_map}
use Rattle.std.specs.Ordering.{nat_cmp}
use Rattle.adr_objects.specs.NameSets.{has_name}
use Rattle.adr_objects.specs.declared.body.EventBody.{EventBody}
use Rattle.adr_state.specs.declared.portfolio.Portfolio.{Portfolio}
use Rattle.adr_state.specs.declared.portfolio.Resource.{Resource}
use Rattle.adr_state.specs.declared.participants.Participant.{Participant}
use Rattle.adr_state.specs.Keys.{share_cmp, at}
use Rattle.adr_state.specs.Frozen.{is_frozen, frozen_weight}

-- whether an event with these resource names, if any, is for a resource of that name
abbrev pub is_for : Option (List (List ℕ)) → List ℕ → Bool
is_for None name = true
is_for (Some names) name = has_name names name

-- the share of a resource in an event's program, where the event is for a resource of its name
abbrev pub weight_by_share : Portfolio → EventBody → ℕ × Resource → Option ℕ
weight_by_share portfolio event r = if is_for event.resource_names r.1.name then at share_cmp (record { program = event.program; resource = r.0 }) portfolio.shares else None

-- the weight of a resource in the event of an id, where it has one: that which is kept for it, of an event that is
-- frozen, and else its share
abbrev pub weight_in : Portfolio → List ℕ → EventBody → ℕ × Resource → Option ℕ
weight_in portfolio id event r = if is_frozen portfolio id then frozen_weight portfolio id r.0 else weight_by_share portfolio event r

-- a resource with a weight, and its ven's name, where its ven is there
abbrev pub as_participant : Portfolio → ℕ × Resource → ℕ → Option Participant
as_participant portfolio r weight = option_map (λ ven. record { resource = r.0; weight = weight; name = r.1.name; ven_name = ven.name }) (at nat_cmp r.1.ven portfolio.vens)

-- a resource as one that takes part in the event of an id, where it has a weight in it, and its ven is there
abbrev pub participant_of : Portfolio → List ℕ → EventBody → ℕ × Resource → Option Participant
participant_of portfolio id event r = option_and_then (as_participant portfolio r) (weight_in portfolio id event r)

-- the participants of the event of an id, in the order of their numbers: of an event that is frozen the resources for
-- which a weight is kept, and else those with a share in the event's program, of the names of its resource targets where
-- it has such a target; on every state that a run reaches none is left out for want of a ven (law
-- `participants_lack_none` of adr_laws)
abbrev pub participants : Portfolio → List ℕ → EventBody → List Participant
participants portfolio id event = filter_map (participant_of portfolio id event) portfolio.resources
