use Rattle.std.proofs.Common.{refl, ◌≡◌, map, sym, ap, subst, ◌∙◌}
use Rattle.std.specs.Prelude.{All}
use Rattle.adr_db.specs.Bases.{kept_beside}
use Rattle.adr_db.proofs.Results.{ok_then}
use Rattle.adr_kept_view.specs.declared.object.ObjectKey.TheVariants as object
use Rattle.adr_kept_view.specs.declared.object.OldObject.{OldObject}
use Rattle.adr_kept_view.specs.Objects.{StoodIn}
use Rattle.adr_objects.specs.declared.kind.Kind.TheVariants as kind
use Rattle.adr_touched.specs.Touched.{ids_of}
use Rattle.adr_touched.proofs.Edits.{keys_found, all_stood}
use Rattle.adr_touched.proofs.by_evidence.programs_at.Goals as goal

pub returns-clause-finds : goal.returns-clause-finds
returns-clause-finds g c clean =
    let keys = c.in_ok-programs.programs in
    let ids : c.in_ok-ids.ids ≡ ids_of kind.Program c.args.keys = rw (c.in_ok-ids.ensures, c.as_slice.ensures) refl in
    ok_then c.objects_at.result (λ olds finds beside base holds.
    let kept = kept_beside beside base in
    let found = finds kept holds in (
      record {
        in_order = ap (map (λ (old : OldObject). old.key)) found.0 ∙ keys_found kept keys ∙ c.in_ok-programs.ensures ∙ ap (map object.Program) ids;
        stood = subst (All (StoodIn base)) (sym found.0) (all_stood beside base keys);
      },
      found.1,
    )) (c.objects_at.ensures.finds clean)
