-- Laws of what is told of the rows that are kept of shown events.
use Rattle.std.specs.Prelude.{◌≡◌, ℕ, List, map, take, drop, Some}
use Rattle.sqlite.specs.State as sql
use Rattle.adr_objects.specs.declared.kind.Kind.TheVariants as kind
use Rattle.adr_state.specs.declared.state.State.{State}
use Rattle.adr_state.specs.ShownIds.{resource_part, event_part}
use Rattle.adr_view.specs.declared.sight.Sight.{Sight}
use Rattle.adr_view.specs.Sights.{owner_in}
use Rattle.adr_queries.specs.declared.answer.Object.{Object}
use Rattle.adr_queries.specs.declared.filter.EventFilter.{EventFilter}
use Rattle.adr_queries.specs.declared.query.Page.{Page}
use Rattle.adr_queries.specs.Filters.{wanted_of}
use Rattle.adr_queries.specs.Listings.{page_of}
use Rattle.adr_queries.specs.Shown.{objects_in_sight, event_named}
use Rattle.adr_held.specs.Held.{kept_of, HoldsState}
use Rattle.adr_lent.specs.Pages.{kept_for, wanted_among}
use Rattle.adr_pages.specs.Objects.{object_kept, event_kept}

-- where the tables hold a state, a page of the wanted events in sight is the page of the rows kept for who sees that
-- much which are wanted by their columns, told one by one
abbrev pub EventsAreTheirRows : sql.State → Type 0
EventsAreTheirRows s = (held : State) (sight : Sight) (wanted : EventFilter) (page : Page) (objects : List Object) → HoldsState held s
    → map Some objects ≡ map (object_kept held.stamps) (take page.limit (drop page.skip (wanted_among wanted (kept_for (owner_in sight) (kept_of held).shown))))
    → page_of page (wanted_of wanted (objects_in_sight held kind.Event sight)) ≡ objects

-- and so what a resource is shown of an event is what is kept of it
abbrev pub EventIsItsRow : sql.State → Type 0
EventIsItsRow s = (held : State) (sight : Sight) (id : List ℕ) → HoldsState held s → event_kept (kept_of held) sight id ≡ event_named held sight (resource_part id) (event_part id)
