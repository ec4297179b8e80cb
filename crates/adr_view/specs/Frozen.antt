-- Freezing an event: what is decided, and which pairs are told of it.
use Rattle.std.specs.Prelude.{ℕ, ◌+◌, ◌==◌, nat_lt, Bool, true, false, not, ◌||◌, List, [], length, map, Option, Some, None, Result, Ok, Err, if◌then◌else◌}
use Rattle.std.specs.BTreeMap.{is_at}
use Rattle.std.specs.List.{list_any}
use Rattle.std.specs.Option.{option_map_or}
use Rattle.adr_text.specs.Refusals.{◌>>=◌, or_else}
use Rattle.adr_text.specs.declared.refusal.Refusal.{Refusal}
use Rattle.adr_text.specs.declared.refusal.Refusal.TheVariants.{NotFound, LimitReached}
use Rattle.adr_objects.specs.declared.body.EventBody.{EventBody}
use Rattle.adr_state.specs.declared.base.Mark.{Mark}
use Rattle.adr_state.specs.declared.keys.MirrorKey.{MirrorKey}
use Rattle.adr_state.specs.declared.limits.Limits.{Limits}
use Rattle.adr_state.specs.declared.participants.Participant.{Participant}
use Rattle.adr_state.specs.declared.portfolio.Portfolio.{Portfolio}
use Rattle.adr_state.specs.Frozen.{is_frozen, pairs_kept, with_frozen}
use Rattle.adr_state.specs.Keys.{mirror_cmp}
use Rattle.adr_state.specs.Participants.{participant_of, participants}
use Rattle.adr_state.specs.Portfolios.{PortfolioChange, Freeze}
use Rattle.adr_view.specs.Rollups.{event_key, event_body, event_at}

-- the pairs of those who take part: the number of each one's resource, and its weight
abbrev pub pairs_of : List Participant → List (ℕ × ℕ)
pairs_of ps = map (λ p. (p.resource, p.weight)) ps

-- whether there is no room for so many more pairs beside those that are kept for all events
abbrev pub are_beyond : Limits → Portfolio → List (ℕ × ℕ) → Bool
are_beyond limits p pairs = nat_lt limits.frozen (length p.frozen_shares + length pairs)

-- whether one takes part as another does: neither does, or both with one weight
abbrev pub is_alike : Option Participant → Option Participant → Bool
is_alike None None = true
is_alike (Some one) (Some other) = one.weight == other.weight
is_alike one other = false

-- whether a resource takes part in an event of one portfolio otherwise than in that of another
abbrev pub one_differs : Portfolio → Portfolio → List ℕ → EventBody → Bool
one_differs p q id event = list_any (λ r. not (is_alike (participant_of p id event r) (participant_of q id event r))) p.resources

-- whether others would take part in an event, or with other weights, once it is frozen with these pairs
abbrev pub freezing_differs : List ℕ → List (ℕ × ℕ) → Portfolio → EventBody → Bool
freezing_differs id pairs p event = one_differs p (with_frozen id pairs p) id event

-- what a mark says of the event of an id
abbrev pub body_at : List ℕ → MirrorKey × Mark → Option EventBody
body_at id e = if is_at (mirror_cmp (event_key id)) e.0 then event_body (Some e.1) else None

-- whether so it would be in an event as a mark says it
abbrev pub mark_differs : List ℕ → List (ℕ × ℕ) → Portfolio → MirrorKey × Mark → Bool
mark_differs id pairs p e = option_map_or (freezing_differs id pairs p) (body_at id e) false

-- whether pairs can not be kept for an event: there is no room for them, or others would take part by them; by the pairs
-- of those who take part no others would where rows stand in order (law `freezing_keeps_who_takes_part`)
abbrev pub can_not_keep : Limits → List ℕ → List (ℕ × ℕ) → List (MirrorKey × Mark) → Portfolio → Bool
can_not_keep limits id pairs mirror p = are_beyond limits p pairs || list_any (mark_differs id pairs p) mirror

-- an event is frozen with these pairs, and they are told: 10 where they can not be kept
abbrev pub frozen_with : Limits → List ℕ → List (ℕ × ℕ) → List (MirrorKey × Mark) → Portfolio → Result (List (ℕ × ℕ) × PortfolioChange) Refusal
frozen_with limits id pairs mirror p = if can_not_keep limits id pairs mirror p then Err LimitReached else Ok (pairs, Freeze id pairs)

-- an event that is live is frozen with the pairs of those who take part in it now; of one that is frozen already the pairs
-- that are kept are told, and nothing changes
abbrev pub frozen_as : Limits → List ℕ → EventBody → List (MirrorKey × Mark) → Portfolio → Result (List (ℕ × ℕ) × PortfolioChange) Refusal
frozen_as limits id event mirror p = if is_frozen p id then Ok (pairs_kept p id, Freeze id []) else frozen_with limits id (pairs_of (participants p id event)) mirror p

-- the event of an id is frozen, and the pairs that are kept for it are told: 6 where it is not live with an event's body
abbrev pub freeze : Limits → List ℕ → List (MirrorKey × Mark) → Portfolio → Result (List (ℕ × ℕ) × PortfolioChange) Refusal
freeze limits id mirror p = or_else NotFound (event_at mirror id) >>= λ event. frozen_as limits id event mirror p

-- the pairs that are kept for the event of an id: 6 where it was never frozen
abbrev pub frozen_pairs : List ℕ → Portfolio → Result (List (ℕ × ℕ)) Refusal
frozen_pairs id p = if is_frozen p id then Ok (pairs_kept p id) else Err NotFound
