use Rattle.std.proofs.Common.{ℕ, sym, subst, ◌∙◌}
use Rattle.std.proofs.lemmas.Option.{same_Some}
use Rattle.adr_kept_view.specs.declared.object.ObjectKey.TheVariants as object
use Rattle.adr_touched.specs.Touched.{StoodAt}
use Rattle.adr_desk.proofs.reports.stood_at.Goals as goal

pub returns-in_ok-stood_report-in-Some-clause-finds : goal.returns-in_ok-stood_report-in-Some-clause-finds
returns-in_ok-stood_report-in-Some-clause-finds g c clean beside base was =
    let it = c.in_ok-stood_report-in-Some.ensures.finds clean beside base was in
    ((λ n is. subst (λ (m : ℕ). StoodAt (object.Report m) base c.in_ok-stood_report-in-Some.field-0) (same_Some c.in-Some.number n (sym c.in-Some.is ∙ c.number_in.ensures ∙ is)) it.0), it.1)
