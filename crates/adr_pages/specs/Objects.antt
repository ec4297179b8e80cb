-- What is kept of a shown event, as an object that is told.
use Rattle.std.specs.Prelude.{ℕ, List, Option, None, Some, option_map, option_and_then, Result, Err, if◌then◌else◌}
use Rattle.adr_text.specs.declared.refusal.Refusal.{Refusal}
use Rattle.adr_text.specs.declared.refusal.Refusal.TheVariants.{NotFound, Forbidden}
use Rattle.adr_objects.specs.declared.shown.Stamps.{Stamps}
use Rattle.adr_state.specs.declared.keys.ViewKey.{ViewKey}
use Rattle.adr_state.specs.declared.keys.ViewKey.TheVariants as key
use Rattle.adr_state.specs.declared.portfolio.Resource.{Resource}
use Rattle.adr_state.specs.Keys.{view_cmp, at}
use Rattle.adr_state.specs.ShownIds.{resource_part, event_part, id_in, resource_named}
use Rattle.adr_view.specs.declared.sight.Sight.{Sight}
use Rattle.adr_view.specs.Sights.{sees_ven}
use Rattle.adr_queries.specs.declared.answer.Object.{Object}
use Rattle.adr_queries.specs.declared.answer.Object.TheVariants as object
use Rattle.adr_queries.specs.declared.answer.Answer.{Answer}
use Rattle.adr_queries.specs.Shown.{told}
use Rattle.adr_db.specs.Kept.{Kept}
use Rattle.adr_db.specs.ShownKeys.{shown_cmp}
use Rattle.adr_db.specs.declared.shown.ShownColumns.{ShownColumns}
use Rattle.adr_db.specs.declared.shown.ShownKey.{ShownKey}

-- the key in the view
abbrev pub event_key : ShownKey → ViewKey
event_key k = key.Event k.event k.resource

-- what is kept of a shown event in a row, with its stamps
abbrev pub object_with : ShownKey → ShownColumns → Stamps → Object
object_with k c stamps = object.Event (record {
  resource = k.resource;
  event = k.event;
  program = c.program;
  ven_name = c.ven_name;
  resource_name = c.resource_name;
  stamps = stamps;
  body = c.body;
})

-- the same, where it has stamps
abbrev pub object_kept : List (ViewKey × Stamps) → ShownKey × ShownColumns → Option Object
object_kept stamps e = option_map (object_with e.0 e.1) (at view_cmp (event_key e.0) stamps)

-- what is kept of a shown event, with its stamps, where something is
abbrev pub shown_kept : Kept → ShownKey → Option Object
shown_kept kept k = option_and_then (λ c. object_kept kept.stamps (k, c)) (at shown_cmp k kept.shown)

-- what a resource is shown of the event that this text names
abbrev pub event_shown : Kept → ℕ → List ℕ → Option Object
event_shown kept n text = option_and_then (λ id. shown_kept kept (record { event = id; resource = n })) (id_in text)

-- an event of a resource that is out of sight is forbidden, whether it is there or not
abbrev pub event_told : Kept → Sight → List ℕ → Option (ℕ × Resource) → Result Answer Refusal
event_told kept sight event None = Err NotFound
event_told kept sight event (Some (n, resource)) = if sees_ven sight resource.ven then told (event_shown kept n event) else Err Forbidden

-- an id without `-` names no resource
abbrev pub event_named : Kept → Sight → List ℕ → Option (List ℕ) → Result Answer Refusal
event_named kept sight resource None = Err NotFound
event_named kept sight resource (Some event) = event_told kept sight event (resource_named kept.portfolio resource)

-- the event of an id, by what is kept of it
abbrev pub event_kept : Kept → Sight → List ℕ → Result Answer Refusal
event_kept kept sight id = event_named kept sight (resource_part id) (event_part id)
