-- What is accepted is answered: a report that is kept stands in the view after, and one that goes stood in the view before, so each has its stamps.
use Rattle.std.proofs.Common.{◌≡◌, ℕ, ◌+◌, List, Some, None, Result, Ok, Err, refl, sym, ap, subst, ◌∙◌}
use Rattle.std.specs.Prelude.{IsSome, IsOk, IfOk, IfErr, option_map}
use Rattle.std.proofs.lemmas.Cmp.{tied_itself}
use Rattle.std.proofs.lemmas.Map.Views.{IsSome-lookup_from_Contains}
use Rattle.adr_laws.proofs.Common.{Contains, Contains-from_lookup, false≢true, keys_of, eq_by_cmp_equiv, nat_cmp, nat_cmp_total, tells_apart, Base, State, BaseChange, ChangePortfolio, changed, Command, Refusal, view_cmp, at, empty, step_at}
use Rattle.adr_text.specs.Refusals.{◌>>=◌}
use Rattle.adr_objects.specs.declared.report.ReportBody.{ReportBody}
use Rattle.adr_objects.specs.declared.site.ReportIn.{ReportIn}
use Rattle.adr_objects.specs.declared.shown.Stamps.{Stamps}
use Rattle.adr_state.specs.declared.keys.ViewKey.{ViewKey}
use Rattle.adr_state.specs.declared.keys.ViewKey.TheVariants as key
use Rattle.adr_state.specs.declared.portfolio.Report.{Report}
use Rattle.adr_state.specs.Portfolios.{PutReport}
use Rattle.adr_state.proofs.LawLemmas.{at-insert_entry}
use Rattle.adr_view.specs.declared.view.Content.TheVariants as content
use Rattle.adr_view.specs.Laws.{StandsInOrder}
use Rattle.adr_view.specs.Views.{view}
use Rattle.adr_view.proofs.KeyLemmas.{view_exact}
use Rattle.adr_view.proofs.ListLemmas.{in_map}
use Rattle.adr_view.proofs.OrderLemmas.{in_order_put}
use Rattle.adr_view.proofs.OtherLemmas.{others_shown}
use Rattle.adr_view.proofs.ShownLemmas.{view_total}
use Rattle.adr_machine.specs.declared.command.Command.TheVariants.{Evidence, Gone, ScanBegin, ScanEnd, VenAdd, VenPut, VenRemove, ResourceAdd, ResourcePut, ResourceRemove, ShareSet, Freeze, ReportPost, ReportPut, ReportDelete, SubPost, SubPut, SubDelete, Lease, Sent, Failed}
use Rattle.adr_machine.specs.declared.outcome.Outcome.{Outcome}
use Rattle.adr_machine.specs.declared.outcome.Outcome.TheVariants as outcome
use Rattle.adr_machine.specs.Edits.{Decision}
use Rattle.adr_queries.specs.Shown.{object_at, told}
use Rattle.adr_machine.specs.Steps.{answered_by}
use Rattle.adr_machine.specs.Steps.{changed as restamped_by, outbox_then}
use Rattle.adr_laws.specs.Laws.{IsStampedAsShown, IsAnsweredWhereTold, ReportsAreAnswered, ReportsAreAnsweredAfterRuns}
use Rattle.adr_laws.specs.Standing.{state_of}
use Rattle.adr_laws.proofs.Decisions.{IsKept, IsGone, IsOther, IsPlain, Comes, base_after, after_edit}
use Rattle.adr_laws.proofs.PortfolioLemmas.{rows_in_order}
use Rattle.adr_laws.proofs.StampLemmas.{keys_restamped, stamps_of_view}

-- where the stamps have the keys of a view, each report that is there has its own
report_stamped : (base : Base) (stamps : List (ViewKey × Stamps)) → keys_of stamps ≡ keys_of (view base) → StandsInOrder base → (n : ℕ) (report : Report) → at nat_cmp n base.portfolio.reports ≡ Some report → IsSome (at view_cmp (key.Report n) stamps)
report_stamped base stamps same stands n report is =
    let shown : at view_cmp (key.Report n) (view base) ≡ Some (content.Report report.body) = (others_shown base stands).reports n ∙ ap (option_map (λ r. content.Report r.body)) is in
    let row : Contains (view base) (key.Report n, content.Report report.body) = Contains-from_lookup (tells_apart view_exact) (key.Report n) (content.Report report.body) (view base) shown in
    let its : Contains (keys_of (view base)) (key.Report n) = in_map (λ r. r.0) (view base) (key.Report n, content.Report report.body) row in
    IsSome-lookup_from_Contains (eq_by_cmp_equiv view_total) (key.Report n) stamps (subst (λ ks. Contains ks (key.Report n)) (sym same) its)

-- and is told
is_told : (stamps : List (ViewKey × Stamps)) (n : ℕ) (body : ReportBody) → IsSome (at view_cmp (key.Report n) stamps) → IsOk (told (object_at stamps (key.Report n, content.Report body)))
is_told stamps n body = elim (at view_cmp (key.Report n) stamps) as (λ o. at view_cmp (key.Report n) stamps ≡ o → IsSome o → IsOk (told (object_at stamps (key.Report n, content.Report body)))) [
  | None ↦ λ is none. absurd (false≢true none)
  | Some s ↦ λ is some. rw is refl
] refl

module _ (s : State) (stamped : IsStampedAsShown s) (stands : StandsInOrder s.base) (c : ℕ × Command) (d : Decision) where
  abbrev after : Base
  after = base_after s.base c.1 d

  abbrev IsAnswered : Outcome → Type 0
  IsAnswered comes = IsOk (answered_by comes s.stamps (restamped_by s c.0 after))

  other_answered : (comes : Outcome) → IsOther comes → IsAnswered comes
  other_answered (outcome.Told a) other = refl
  other_answered outcome.Counted other = refl
  other_answered (outcome.ReportKept n body) other = absurd other
  other_answered (outcome.ReportGone n body) other = absurd other

  -- a report that is kept is there afterwards, where rows stand in order still
  kept_answered : {IsItsNumber : ℕ → Type 0} {sent : ReportIn} → IsKept s.base IsItsNumber sent d → IsAnswered d.outcome
  kept_answered k =
      let n = k.number in
      let put : BaseChange = ChangePortfolio (PutReport n k.report) in
      let then_stands : StandsInOrder after =
      subst (λ (change : BaseChange). StandsInOrder (record (changed change s.base) { serial = after.serial })) (sym k.puts)
      (record { upstream_keys = stands.upstream_keys; resources = stands.resources; reports = in_order_put nat_cmp_total n k.report s.base.portfolio.reports stands.reports }) in
      let there : at nat_cmp n after.portfolio.reports ≡ Some k.report =
      ap (λ change. at nat_cmp n (changed change s.base).portfolio.reports) k.puts ∙ at-insert_entry nat_cmp_total n n k.report s.base.portfolio.reports ∙ rw (tied_itself nat_cmp_total n) refl in
      subst IsAnswered (sym k.comes) (is_told (restamped_by s c.0 after).1 n k.report.body (report_stamped after (restamped_by s c.0 after).1 (keys_restamped s.stamps (view s.base) after c.0) then_stands n k.report there))

  -- one that goes was there
  gone_answered : {id : List ℕ} → IsGone s.base id d → IsAnswered d.outcome
  gone_answered g = subst IsAnswered (sym g.comes) (is_told s.stamps g.number g.report.body (report_stamped s.base s.stamps stamped.those_of_the_view stands g.number g.report g.was_there))

  plain_answered : IsPlain d → IsAnswered d.outcome
  plain_answered p = other_answered d.outcome p.comes

  by_command : (command : Command) → Comes (s.base.serial + 1) s.base command d → IsAnswered d.outcome
  by_command (Evidence founds polled) comes = plain_answered comes
  by_command (Gone kind id) comes = plain_answered comes
  by_command ScanBegin comes = plain_answered comes
  by_command ScanEnd comes = plain_answered comes
  by_command (VenAdd role ven) comes = plain_answered comes
  by_command (VenPut role id ven) comes = plain_answered comes
  by_command (VenRemove role id) comes = plain_answered comes
  by_command (ResourceAdd role ven resource) comes = plain_answered comes
  by_command (ResourcePut role ven id resource) comes = plain_answered comes
  by_command (ResourceRemove role ven id) comes = plain_answered comes
  by_command (ShareSet role program resource share) comes = plain_answered comes
  by_command (Freeze role event) comes = plain_answered comes
  by_command (ReportPost role report) comes = kept_answered comes
  by_command (ReportPut role id report) comes = kept_answered comes
  by_command (ReportDelete role id) comes = gone_answered comes
  by_command (SubPost role sub) comes = plain_answered comes
  by_command (SubPut role id sub) comes = plain_answered comes
  by_command (SubDelete role id) comes = plain_answered comes
  by_command Lease comes = plain_answered comes
  by_command (Sent entry lease remote) comes = plain_answered comes
  by_command (Failed entry lease forget) comes = plain_answered comes

-- the commit of what is answered is refused only as what is told of it is
refused_then : {A B C : Type 0} (o : Result B Refusal) (r : Result A Refusal) (f : B → A → C) → IsOk r → IfErr (o >>= λ next. r >>= λ x. Ok (f next x)) (λ refusal. o ≡ Err refusal)
refused_then (Ok next) (Ok x) f is = tt
refused_then (Ok next) (Err e) f is = absurd (false≢true is)
refused_then (Err e) r f is = refl

pub reports_answered : ReportsAreAnswered
reports_answered settings s c stamped stands =
    after_edit settings s c (λ r. IfOk r (IsAnsweredWhereTold settings s c.0)) (λ refusal. tt)
    (λ d fits within. refused_then (outbox_then settings s c.0 (base_after s.base c.1 d)) (answered_by d.outcome s.stamps (restamped_by s c.0 (base_after s.base c.1 d))) _ (by_command s stamped stands c d c.1 fits.is))

pub reports_answered_after_runs : ReportsAreAnsweredAfterRuns
reports_answered_after_runs settings cs c = reports_answered settings (state_of (step_at settings) empty cs) c (stamps_of_view settings cs) (rows_in_order settings cs)
