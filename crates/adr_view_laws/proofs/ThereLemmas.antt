-- What is written is there.
use Rattle.std.proofs.Common.{◌≡◌, ℕ, ◌+◌, List, [], ◌∷◌, Option, Some, None, Result, Ok, IfOk, refl, sym, ap, subst, ◌∙◌}
use Rattle.std.specs.Prelude.{option_map, option_and_then}
use Rattle.std.proofs.lemmas.Cmp.{tied_itself}
use Rattle.std.proofs.lemmas.List.Elements.{All-cons}
use Rattle.adr_text.specs.declared.refusal.Refusal.{Refusal}
use Rattle.adr_objects.specs.declared.report.ReportBody.{ReportBody}
use Rattle.adr_objects.specs.declared.shown.Stamps.{Stamps}
use Rattle.adr_objects.specs.declared.site.ReportIn.{ReportIn}
use Rattle.adr_state.specs.declared.keys.ViewKey.TheVariants as key
use Rattle.adr_state.specs.declared.portfolio.Report.{Report}
use Rattle.adr_state.proofs.LawLemmas.{at-insert_entry}
use Rattle.adr_view.specs.declared.view.Content.TheVariants as content
use Rattle.adr_queries.specs.declared.answer.Answer.{Answer}
use Rattle.adr_queries.specs.Shown.{object_of, told}
use Rattle.adr_machine.specs.declared.command.Command.TheVariants.{ReportPost, ReportPut}
use Rattle.adr_machine.specs.declared.outcome.Outcome.{Outcome}
use Rattle.adr_machine.specs.Edits.{Decision}
use Rattle.adr_machine.specs.Steps.{answered_by}
use Rattle.adr_machine.specs.Steps.{changed as restamped_by}
use Rattle.adr_laws.specs.Reported.{report_in, written_by}
use Rattle.adr_laws.proofs.Common.{All, All-nil, Base, BaseChange, Command, State, at, changed, insert_entry, nat_cmp, nat_cmp_total, view_cmp}
use Rattle.adr_laws.proofs.Decisions.{Comes, IsKept, after_step, base_after, of_delivery}
use Rattle.adr_view_laws.specs.WrittenReports.{IsThere, WrittenReportsAreThere}

-- what is told of a report is that report, whatever its stamps
told_itself : (n : ℕ) (body : ReportBody) (stamps : Option Stamps) → IfOk (told (option_and_then (object_of (key.Report n) (content.Report body)) stamps)) (λ a. report_in a ≡ (n, body) ∷ [])
told_itself n body None = tt
told_itself n body (Some its) = refl

-- a report that is put is there
put_there : (n : ℕ) (report : Report) (reports : List (ℕ × Report)) → IsThere (insert_entry nat_cmp reports n report) (n, report.body)
put_there n report reports =
    let put : at nat_cmp n (insert_entry nat_cmp reports n report) ≡ Some report = at-insert_entry nat_cmp_total n n report reports ∙ rw (tied_itself nat_cmp_total n) refl in
    ap (option_map (λ (r : Report). r.body)) put

module _ (s : State) (now : ℕ) (d : Decision) (a : Answer) where
  -- what of a report is written is there after the decision
  abbrev AreThere : List (ℕ × ReportBody) → Type 0
  AreThere = All (IsThere (changed d.change s.base).portfolio.reports)

  kept_there : {IsItsNumber : ℕ → Type 0} {sent : ReportIn} (after : Base) → IsKept s.base IsItsNumber sent d → answered_by d.outcome s.stamps (restamped_by s now after) ≡ Ok a → AreThere (report_in a)
  kept_there after k is =
      let w : ℕ × ReportBody = (k.number, k.report.body) in
      let put : IsThere (changed d.change s.base).portfolio.reports w = subst (λ (change : BaseChange). IsThere (changed change s.base).portfolio.reports w) (sym k.puts) (put_there k.number k.report s.base.portfolio.reports) in
      let itself : IfOk (answered_by d.outcome s.stamps (restamped_by s now after)) (λ a. report_in a ≡ w ∷ []) =
      subst (λ (comes : Outcome). IfOk (answered_by comes s.stamps (restamped_by s now after)) (λ a. report_in a ≡ w ∷ [])) (sym k.comes) (told_itself k.number k.report.body (at view_cmp (key.Report k.number) (restamped_by s now after).1)) in
      let told_it : report_in a ≡ w ∷ [] = subst (λ (r : Result Answer Refusal). IfOk r (λ a. report_in a ≡ w ∷ [])) is itself in
      subst AreThere (sym told_it) (All-cons (IsThere (changed d.change s.base).portfolio.reports) w [] put (All-nil (IsThere (changed d.change s.base).portfolio.reports)))

  all_there : (command : Command) → Comes (s.base.serial + 1) s.base command d → answered_by d.outcome s.stamps (restamped_by s now (base_after s.base command d)) ≡ Ok a → AreThere (written_by command a)
  all_there (ReportPost role sent) comes is = kept_there (base_after s.base (ReportPost role sent) d) comes is
  all_there (ReportPut role id sent) comes is = kept_there (base_after s.base (ReportPut role id sent) d) comes is
  all_there _ comes is = All-nil (IsThere (changed d.change s.base).portfolio.reports)

pub written_there : WrittenReportsAreThere
written_there settings s c =
    let none : All (IsThere s.base.portfolio.reports) [] = All-nil (IsThere s.base.portfolio.reports) in
    after_step settings s c (λ r. IfOk r (λ taken. All (IsThere taken.1.base.portfolio.reports) (written_by c.1 taken.0))) (λ refusal. tt)
    (λ a o is done. of_delivery (λ command. All (IsThere s.base.portfolio.reports) (written_by command a)) none (λ entry lease remote. none) (λ entry lease forget. none) c.1 is) (λ d a is. all_there s c.0 d a c.1 is.fits.is is.answers)
