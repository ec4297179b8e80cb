-- What a role is told of programs and events, and of what is shown in all.
use Rattle.std.specs.Prelude.{ℕ, Bool, true, false, ◌&&◌, ◌==◌, List, filter, Option, None, Some, option_map, option_and_then, Result, Ok, Err, if◌then◌else◌}
use Rattle.std.specs.List.{filter_map}
use Rattle.std.specs.Option.{option_map_or}
use Rattle.std.specs.Ordering.{nat_cmp}
use Rattle.adr_text.specs.Refusals.{◌>>=◌}
use Rattle.adr_text.specs.declared.refusal.Refusal.{Refusal}
use Rattle.adr_text.specs.declared.refusal.Refusal.TheVariants.{NotFound, Forbidden}
use Rattle.adr_objects.specs.declared.kind.Kind.{Kind}
use Rattle.adr_objects.specs.declared.kind.Kind.TheVariants as kind
use Rattle.adr_objects.specs.declared.shown.Stamps.{Stamps}
use Rattle.adr_state.specs.declared.base.Base.{Base}
use Rattle.adr_state.specs.declared.state.State.{State}
use Rattle.adr_state.specs.declared.portfolio.Resource.{Resource}
use Rattle.adr_state.specs.declared.keys.ViewKey.{ViewKey}
use Rattle.adr_state.specs.declared.keys.ViewKey.TheVariants as key
use Rattle.adr_view.specs.declared.view.Content.{Content}
use Rattle.adr_view.specs.declared.view.Content.TheVariants as content
use Rattle.adr_event_text.specs.Kept.{kept_as}
use Rattle.adr_queries.specs.declared.role.Role.{Role}
use Rattle.adr_view.specs.declared.sight.Sight.{Sight}
use Rattle.adr_view.specs.declared.sight.Sight.TheVariants.{All, Of}
use Rattle.adr_queries.specs.declared.filter.EventFilter.{EventFilter}
use Rattle.adr_queries.specs.declared.query.Page.{Page}
use Rattle.adr_queries.specs.declared.answer.Object.{Object}
use Rattle.adr_queries.specs.declared.answer.Object.TheVariants as object
use Rattle.adr_queries.specs.declared.answer.Answer.{Answer}
use Rattle.adr_queries.specs.declared.answer.Answer.TheVariants as answer
use Rattle.adr_state.specs.Keys.{view_cmp, at}
use Rattle.adr_state.specs.ShownIds.{resource_part, event_part, id_in, resource_named}
use Rattle.adr_view.specs.Views.{view}
use Rattle.adr_queries.specs.Filters.{wanted_of}
use Rattle.adr_queries.specs.Roles.{sight_of}
use Rattle.adr_view.specs.Sights.{sees_ven}
use Rattle.adr_queries.specs.Listings.{page_of}

-- ---- what is in sight

-- the ven that owns a resource, where it is there
abbrev pub owner_of : Base → ℕ → Option ℕ
owner_of base resource = option_map (λ r. r.ven) (at nat_cmp resource base.portfolio.resources)

-- whether what a resource is shown, and what is reported of it, is in sight
abbrev pub sees_owned : Base → Sight → ℕ → Bool
sees_owned base All resource = true
sees_owned base (Of ven) resource = option_map_or (λ owner. owner == ven) (owner_of base resource) false

-- whether what stands at a key is in sight: every ven sees the programs, the events of its own resources and the
-- reports on these, and the operator alone the roll-ups
abbrev pub sees : Base → Sight → ViewKey → Bool
sees base All k = true
sees base (Of ven) (key.Program id) = true
sees base (Of ven) (key.Event event resource) = sees_owned base (Of ven) resource
sees base (Of ven) (key.Report n) = option_map_or (λ r. sees_owned base (Of ven) r.body.head.resource) (at nat_cmp n base.portfolio.reports) false
sees base (Of ven) (key.Rollup id) = false

-- whether something of the kind stands at a key
abbrev pub is_of : Kind → ViewKey → Bool
is_of kind.Program (key.Program id) = true
is_of kind.Event (key.Event event resource) = true
is_of _ _ = false

-- of what is shown, the rows of a kind that are in sight
abbrev pub rows_seen : Base → List (ViewKey × Content) → Kind → Sight → List (ViewKey × Content)
rows_seen base shown kind sight = filter (λ r. is_of kind r.0 && sees base sight r.0) shown

-- so of the view of a base
abbrev pub rows_in_sight : Base → Kind → Sight → List (ViewKey × Content)
rows_in_sight base kind sight = rows_seen base (view base) kind sight

-- what is shown at a key, as an object; a roll-up is none
abbrev pub object_of : ViewKey → Content → Stamps → Option Object
object_of (key.Program id) (content.Program name) stamps = Some (object.Program (record { id = id; name = name; stamps = stamps }))
object_of (key.Event event resource) (content.Event shown) stamps = Some (object.Event (kept_as resource event shown stamps))
object_of (key.Report n) (content.Report body) stamps = Some (object.Report (record { number = n; body = body; stamps = stamps }))
object_of _ _ stamps = None

-- what is shown at a key, as an object with its stamps, where it has some; a roll-up is none
abbrev pub object_at : List (ViewKey × Stamps) → ViewKey × Content → Option Object
object_at stamps r = option_and_then (object_of r.0 r.1) (at view_cmp r.0 stamps)

-- ---- listings

-- of what is shown, the programs or the events in sight, in its order, each with its stamps
abbrev pub objects_seen : Base → List (ViewKey × Content) → List (ViewKey × Stamps) → Kind → Sight → List Object
objects_seen base shown stamps kind sight = filter_map (object_at stamps) (rows_seen base shown kind sight)

-- the programs or the events in sight, in the order of the keys, each with its stamps; on every state that a run reaches none is left out for want of stamps (law `objects_lack_none` of adr_laws)
abbrev pub objects_in_sight : State → Kind → Sight → List Object
objects_in_sight s kind sight = objects_seen s.base (view s.base) s.stamps kind sight

-- one page of the programs in sight, by id
abbrev pub programs_reply : State → Role → Page → Result Answer Refusal
programs_reply s role page = sight_of s.base role >>= λ sight. Ok (answer.List (page_of page (objects_in_sight s kind.Program sight)))

-- one page of the wanted events in sight: what isn't wanted is left out before the page is cut
abbrev pub events_reply : State → Role → EventFilter → Page → Result Answer Refusal
events_reply s role wanted page = sight_of s.base role >>= λ sight. Ok (answer.List (page_of page (wanted_of wanted (objects_in_sight s kind.Event sight))))

-- ---- one of them

-- what is shown at a key, with its stamps
abbrev pub object_shown : State → ViewKey → Option Object
object_shown s key = option_and_then (λ c. object_at s.stamps (key, c)) (at view_cmp key (view s.base))

-- the object, and 6 where there is none
abbrev pub told : Option Object → Result Answer Refusal
told None = Err NotFound
told (Some o) = Ok (answer.Object o)

-- the program of an id, and 6 where it isn't shown: every ven sees each program
abbrev pub program_reply : State → Role → List ℕ → Result Answer Refusal
program_reply s role id = sight_of s.base role >>= λ sight. told (object_shown s (key.Program id))

-- what a resource is shown of the event that an event id names
abbrev pub event_shown : State → ℕ → List ℕ → Option Object
event_shown s resource text = option_and_then (λ id. object_shown s (key.Event id resource)) (id_in text)

-- an event of a resource that is out of sight is forbidden, whether it is there or not
abbrev pub event_told : State → Sight → List ℕ → Option (ℕ × Resource) → Result Answer Refusal
event_told s sight event None = Err NotFound
event_told s sight event (Some (n, resource)) = if sees_ven sight resource.ven then told (event_shown s n event) else Err Forbidden

-- an id without `-` names no resource
abbrev pub event_named : State → Sight → List ℕ → Option (List ℕ) → Result Answer Refusal
event_named s sight resource None = Err NotFound
event_named s sight resource (Some event) = event_told s sight event (resource_named s.base.portfolio resource)

-- the event of an id, which names a resource before its first `-` and the utility's event behind it: an event of a
-- resource that is out of sight is 8, whether it is there or not, and what isn't shown is 6
abbrev pub event_reply : State → Role → List ℕ → Result Answer Refusal
event_reply s role id = sight_of s.base role >>= λ sight. event_named s sight (resource_part id) (event_part id)
