-- What the view has at the key of a program.
use Rattle.std.proofs.Common.{◌≡◌, ℕ, List, Option, Some, None, refl, ◌∙◌}
use Rattle.std.specs.Prelude.{option_map}
use Rattle.adr_objects.specs.declared.body.Body.TheVariants as body
use Rattle.adr_objects.specs.declared.kind.Kind.TheVariants as kind
use Rattle.adr_state.specs.declared.base.Base.{Base}
use Rattle.adr_state.specs.declared.base.Mark.{Mark}
use Rattle.adr_state.specs.declared.base.Mark.TheVariants.{Live, Dead}
use Rattle.adr_state.specs.declared.keys.ViewKey.TheVariants as key
use Rattle.adr_state.specs.Keys.{mirror_cmp, view_cmp, at}
use Rattle.adr_view.specs.declared.view.Content.TheVariants as content
use Rattle.adr_view.specs.Views.{rows_known}
use Rattle.adr_view.proofs.ShownLemmas.{view_total}
use Rattle.adr_refresh.proofs.MapLemmas.{tied}
use Rattle.adr_refresh.proofs.ViewLemmas.{view_of_sources}
use Rattle.adr_laws.specs.Entries.{reached}
use Rattle.adr_laws.proofs.PortfolioLemmas.{rows_in_order}
use Rattle.adr_view_laws.specs.ShownPrograms.{program_name, ProgramsAreShown, ProgramsAreShownAfterRuns}

module _ (base : Base) (id : List ℕ) where
  -- what is shown of an upstream program by what is known of it
  shown_by : (known : Option Mark) → at view_cmp (key.Program id) (rows_known base (record { kind = kind.Program; id = id }) known) ≡ option_map (λ name. content.Program name) (program_name known)
  shown_by None = refl
  shown_by (Some Dead) = refl
  shown_by (Some (Live moment (body.Program name))) = rw (tied view_total (key.Program id)) refl
  shown_by (Some (Live moment (body.Event event))) = refl
  shown_by (Some (Live moment (body.Opaque reason))) = refl

pub programs_shown : ProgramsAreShown
programs_shown base stands id = view_of_sources base stands (key.Program id) ∙ shown_by base id (at mirror_cmp (record { kind = kind.Program; id = id }) base.mirror)

pub programs_shown_after_runs : ProgramsAreShownAfterRuns
programs_shown_after_runs settings cs = programs_shown (reached settings cs).base (rows_in_order settings cs)
