-- What an object tells of what is shown.
use Rattle.std.specs.Prelude.{◌≡◌, Bool, true, false, List, Some}
use Rattle.adr_objects.specs.declared.shown.Stamps.{Stamps}
use Rattle.adr_state.specs.declared.keys.ViewKey.{ViewKey}
use Rattle.adr_state.specs.declared.keys.ViewKey.TheVariants as key
use Rattle.adr_state.specs.Keys.{view_cmp, at}
use Rattle.adr_view.specs.declared.view.Content.{Content}
use Rattle.adr_view.specs.declared.view.Content.TheVariants as content
use Rattle.adr_event_text.specs.Kept.{kept_as}
use Rattle.adr_queries.specs.declared.answer.Object.{Object}
use Rattle.adr_queries.specs.declared.answer.Object.TheVariants as object

-- an object tells what is shown at a key, and the stamps that stand there
abbrev pub Tells : List (ViewKey × Stamps) → ViewKey × Content → Object → Type 0
Tells stamps (key.Program id, content.Program name) told = (s : Stamps) × (at view_cmp (key.Program id) stamps ≡ Some s) × (told ≡ object.Program (record { id = id; name = name; stamps = s }))
Tells stamps (key.Event event resource, content.Event shown) told =
    (s : Stamps) × (at view_cmp (key.Event event resource) stamps ≡ Some s) × (told ≡ object.Event (kept_as resource event shown s))
Tells stamps (key.Report n, content.Report body) told = (s : Stamps) × (at view_cmp (key.Report n) stamps ≡ Some s) × (told ≡ object.Report (record { number = n; body = body; stamps = s }))
Tells stamps _ told = ⊥

-- whether what stands at a key is told as an object, as all but a roll-up is
abbrev pub is_object : ViewKey → Bool
is_object (key.Rollup id) = false
is_object _ = true
