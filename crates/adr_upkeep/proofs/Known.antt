-- What is shown of an event hangs on its body alone.
use Rattle.std.proofs.Common.{◌≡◌, ℕ, List, [], Option, None, Some, refl}
use Rattle.std.specs.Option.{option_map_or}
use Rattle.adr_objects.specs.declared.body.Body.TheVariants as body
use Rattle.adr_state.specs.declared.base.Base.{Base}
use Rattle.adr_state.specs.declared.base.Mark.{Mark}
use Rattle.adr_state.specs.declared.base.Mark.TheVariants.{Live, Dead}
use Rattle.adr_view.specs.Rollups.{event_key, event_body}
use Rattle.adr_view.specs.Views.{event_rows, rows_known}

pub by_body : (base : Base) (id : List ℕ) (known : Option Mark) → rows_known base (event_key id) known ≡ option_map_or (event_rows base id) (event_body known) []
by_body base id None = refl
by_body base id (Some Dead) = refl
by_body base id (Some (Live moment (body.Program name))) = refl
by_body base id (Some (Live moment (body.Event event))) = refl
by_body base id (Some (Live moment (body.Opaque reason))) = refl
