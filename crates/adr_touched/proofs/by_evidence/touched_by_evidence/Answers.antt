use Rattle.std.proofs.Common.{ℕ, List, sym, ap, ap₂, subst, ◌∙◌}
use Rattle.adr_objects.specs.declared.kind.Kind.TheVariants as kind
use Rattle.adr_db.proofs.Results.{ok_then}
use Rattle.adr_kept_view.specs.declared.object.OldObject.{OldObject}
use Rattle.adr_touched.specs.declared.touched.Touched.{Touched}
use Rattle.adr_touched.specs.Touched.{ids_of, CoversEvidence}
use Rattle.adr_touched.proofs.Marked.{marks_covered}
use Rattle.adr_touched.proofs.by_evidence.touched_by_evidence.Goals as goal

pub returns : goal.returns
returns c =
    let programs = c.args.programs in
    let risen = c.args.risen in
    ok_then c.with_rollups.result (λ t is.
    let made = is ∙ ap₂ (λ (events : List (List ℕ)) (reports : List OldObject). record { programs = programs; events = events; reports = reports; rollups = events }) (c.in_ok-events.ensures ∙ ap (ids_of kind.Event) c.as_slice.ensures) c.new.ensures in
    subst (λ (t : Touched). CoversEvidence programs risen t) (sym made) (marks_covered programs risen)) c.with_rollups.ensures
