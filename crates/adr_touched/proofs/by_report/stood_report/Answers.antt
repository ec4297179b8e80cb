use Rattle.std.proofs.Common.{sym, ap, subst}
use Rattle.adr_db.specs.Bases.{kept_beside}
use Rattle.adr_db.proofs.Results.{ok_then}
use Rattle.adr_kept_view.specs.declared.object.ObjectKey.TheVariants as object
use Rattle.adr_kept_view.specs.declared.object.OldObject.{OldObject}
use Rattle.adr_kept_view.specs.Objects.{StoodIn}
use Rattle.adr_touched.proofs.Edits.{stood_kept}
use Rattle.adr_touched.proofs.by_report.stood_report.Goals as goal

pub returns-clause-finds : goal.returns-clause-finds
returns-clause-finds g c clean =
    ok_then c.object_at.result (λ old finds beside base holds.
    let found = finds (kept_beside beside base) holds in
    (record { key = ap (λ (o : OldObject). o.key) found.0; stood = subst (StoodIn base) (sym found.0) (stood_kept beside base (object.Report c.args.report)) }, found.1)) (c.object_at.ensures.finds clean)
