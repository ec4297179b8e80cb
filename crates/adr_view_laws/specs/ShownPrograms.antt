-- The programs that are shown.
use Rattle.std.specs.Prelude.{◌≡◌, ℕ, List, Option, Some, None, option_map}
use Rattle.adr_objects.specs.declared.body.Body.TheVariants as body
use Rattle.adr_objects.specs.declared.kind.Kind.TheVariants as kind
use Rattle.adr_state.specs.declared.base.Base.{Base}
use Rattle.adr_state.specs.declared.base.Mark.{Mark}
use Rattle.adr_state.specs.declared.base.Mark.TheVariants.{Live, Dead}
use Rattle.adr_state.specs.declared.keys.MirrorKey.{MirrorKey}
use Rattle.adr_state.specs.declared.keys.ViewKey.TheVariants as key
use Rattle.adr_state.specs.declared.limits.Settings.{Settings}
use Rattle.adr_state.specs.Keys.{mirror_cmp, view_cmp, at}
use Rattle.adr_view.specs.declared.view.Content.TheVariants as content
use Rattle.adr_view.specs.Laws.{StandsInOrder}
use Rattle.adr_view.specs.Views.{view}
use Rattle.adr_machine.specs.declared.command.Command.{Command}
use Rattle.adr_laws.specs.Entries.{reached}

-- the name of a program that is live upstream, where its body was read
abbrev pub program_name : Option Mark → Option (List ℕ)
program_name None = None
program_name (Some Dead) = None
program_name (Some (Live moment (body.Program name))) = Some name
program_name (Some (Live moment (body.Event event))) = None
program_name (Some (Live moment (body.Opaque reason))) = None

-- the name of the program of an upstream id, where it is live and its body was read
abbrev pub program_at : List (MirrorKey × Mark) → List ℕ → Option (List ℕ)
program_at mirror id = program_name (at mirror_cmp (record { kind = kind.Program; id = id }) mirror)

-- each is shown: the view has at the key of a program its name, and nothing there where there is none
abbrev pub ShowsPrograms : Base → Type 0
ShowsPrograms base = (id : List ℕ) → at view_cmp (key.Program id) (view base) ≡ option_map (λ name. content.Program name) (program_at base.mirror id)

-- so it is where rows stand in order
abbrev pub ProgramsAreShown : Type 0
ProgramsAreShown = (base : Base) → StandsInOrder base → ShowsPrograms base

-- and after any run from an empty start
abbrev pub ProgramsAreShownAfterRuns : Type 0
ProgramsAreShownAfterRuns = (settings : Settings) (cs : List (ℕ × Command)) → ShowsPrograms (reached settings cs).base
