-- Each report that is kept is told with its stamps, so a listing lacks none.
use Rattle.std.proofs.Common.{◌≡◌, ℕ, Bool, true, false, cond, ◌&&◌, ◌==◌, List, [], ◌∷◌, filter, Option, Some, None, Ok, refl, sym, ap, subst, ◌∙◌}
use Rattle.std.specs.Prelude.{option_map, option_and_then}
use Rattle.std.specs.Bool.{Decides}
use Rattle.std.specs.List.{AllZip, filter_map, cons_option}
use Rattle.std.specs.Option.{option_map_or}
use Rattle.std.proofs.lemmas.Bool.Decides.{Decides-eqb}
use Rattle.std.proofs.lemmas.Option.{same_Some}
use Rattle.adr_laws.proofs.Common.{AllByRecursion, Contains, IsDistinct-from_sorted, State, at, eq_by_cmp_equiv, false≢true, keys_of, lookup-from_Contains, nat_cmp, nat_cmp_total, recursion_from_All, view_cmp}
use Rattle.adr_text.specs.Refusals.{◌>>=◌}
use Rattle.adr_state.specs.declared.keys.ViewKey.TheVariants as key
use Rattle.adr_state.specs.declared.portfolio.Report.{Report}
use Rattle.adr_state.specs.declared.portfolio.Resource.{Resource}
use Rattle.adr_view.specs.declared.sight.Sight.{Sight}
use Rattle.adr_view.specs.declared.view.Content.{Content}
use Rattle.adr_view.specs.declared.view.Content.TheVariants as content
use Rattle.adr_view.specs.Laws.{StandsInOrder}
use Rattle.adr_view.specs.Views.{report_row, view}
use Rattle.adr_view.proofs.OrderLemmas.{in_order_filtered}
use Rattle.adr_view.proofs.OtherLemmas.{others_shown}
use Rattle.adr_view.proofs.RowLemmas.{each_there}
use Rattle.adr_queries.specs.declared.answer.Answer.TheVariants as answer
use Rattle.adr_queries.specs.declared.answer.Object.{Object}
use Rattle.adr_queries.specs.declared.filter.ReportFilter.{ReportFilter}
use Rattle.adr_queries.specs.Filters.{is_wanted_report, wanted_reports}
use Rattle.adr_queries.specs.Listings.{page_of}
use Rattle.adr_queries.specs.Replies.{reply}
use Rattle.adr_queries.specs.Reported.{sees_report, reports_in_sight}
use Rattle.adr_queries.specs.Shown.{object_at}
use Rattle.adr_laws.specs.Entries.{reached}
use Rattle.adr_laws.specs.Laws.{IsStampedAsShown}
use Rattle.adr_laws.proofs.PortfolioLemmas.{rows_in_order}
use Rattle.adr_laws.proofs.SightLemmas.{shown_is_told}
use Rattle.adr_laws.proofs.StampLemmas.{stamps_of_view}
use Rattle.adr_view_laws.specs.ListedReports.{meets, TellsReport, ReportsLackNone, ReportsLackNoneAfterRuns, ReportsAreSeenByTheirOwn, NoFilterAsksForAll}

module _ (s : State) where
  -- ---- one report

  -- a report is told with its stamps
  abbrev IsTold : ℕ × Report → Type 0
  IsTold r = (o : Object) × (object_at s.stamps (report_row r) ≡ Some o) × TellsReport s.stamps r o

  -- so is each that is kept
  kept_told : IsStampedAsShown s → StandsInOrder s.base → (r : ℕ × Report) → Contains s.base.portfolio.reports r → IsTold r
  kept_told stamped stands r there =
      let reports = s.base.portfolio.reports in
      let kept : at nat_cmp r.0 reports ≡ Some r.1 = lookup-from_Contains (eq_by_cmp_equiv nat_cmp_total) r.0 r.1 reports (IsDistinct-from_sorted nat_cmp (keys_of reports) stands.reports) there in
      let shown : at view_cmp (key.Report r.0) (view s.base) ≡ Some (content.Report r.1.body) = (others_shown s.base stands).reports r.0 ∙ ap (option_map (λ r. content.Report r.body)) kept in
      let told = shown_is_told s (key.Report r.0) (content.Report r.1.body) stamped refl shown in
      (told.0, sym (ap (option_and_then (λ (c : Content). object_at s.stamps (key.Report r.0, c))) shown) ∙ told.1, told.2)

  -- ---- a list of them

  module _ (sight : Sight) (wanted : ReportFilter) where
    abbrev sees : ℕ × Report → Bool
    sees r = sees_report s.base sight r

    abbrev asked : ℕ × Report → Bool
    asked r = sees r && meets wanted r.1.body

    -- what is told of some of them, and asked for
    abbrev told_of : List (ℕ × Report) → List Object
    told_of rows = wanted_reports wanted (filter_map (λ r. object_at s.stamps (report_row r)) rows)

    -- one before others
    one_more : (r : ℕ × Report) (told : IsTold r) (seen : Bool) (met : Bool) → is_wanted_report wanted told.0 ≡ met → (asked_for in_sight : List (ℕ × Report)) → AllZip (TellsReport s.stamps) asked_for (told_of in_sight)
        → AllZip (TellsReport s.stamps) (cond (seen && met) (r ∷ asked_for) asked_for) (told_of (cond seen (r ∷ in_sight) in_sight))
    one_more r told false met is asked_for in_sight rest = rest
    one_more r told true true is asked_for in_sight rest =
        subst (λ o. AllZip (TellsReport s.stamps) (r ∷ asked_for) (wanted_reports wanted (cons_option o (filter_map (λ r. object_at s.stamps (report_row r)) in_sight)))) (sym told.1)
        (subst (λ b. AllZip (TellsReport s.stamps) (r ∷ asked_for) (cond b (told.0 ∷ told_of in_sight) (told_of in_sight))) (sym is) (told.2, rest))
    one_more r told true false is asked_for in_sight rest =
        subst (λ o. AllZip (TellsReport s.stamps) asked_for (wanted_reports wanted (cons_option o (filter_map (λ r. object_at s.stamps (report_row r)) in_sight)))) (sym told.1)
        (subst (λ b. AllZip (TellsReport s.stamps) asked_for (cond b (told.0 ∷ told_of in_sight) (told_of in_sight))) (sym is) rest)

    -- an object that tells a report is asked for where the report is
    asked_alike : (r : ℕ × Report) (told : IsTold r) → is_wanted_report wanted told.0 ≡ meets wanted r.1.body
    asked_alike r told = ap (is_wanted_report wanted) told.2.2

    each_told : (rows : List (ℕ × Report)) → AllByRecursion IsTold rows → AllZip (TellsReport s.stamps) (filter asked rows) (told_of (filter sees rows))
    each_told [] h = tt
    each_told (r ∷ rows) h = one_more r h.0 (sees r) (meets wanted r.1.body) (asked_alike r h.0) (filter asked rows) (filter sees rows) (each_told rows h.1)

pub reports_lack_none : ReportsLackNone
unfolding reply
reports_lack_none s role sight wanted stamped stands is =
    let reports = s.base.portfolio.reports in
    let all : AllByRecursion (IsTold s) reports = recursion_from_All (IsTold s) reports (each_there (IsTold s) reports (kept_told s stamped stands)) in
    record {
      listed = wanted_reports wanted (reports_in_sight s sight);
      numbers_rise = in_order_filtered nat_cmp (asked s sight wanted) reports stands.reports;
      each_is_told = each_told s sight wanted reports all;
      a_page_is_answered = λ page. ap (λ r. r >>= λ sight. Ok (answer.List (page_of page (wanted_reports wanted (reports_in_sight s sight))))) is;
    }

pub reports_lack_none_after_runs : ReportsLackNoneAfterRuns
reports_lack_none_after_runs settings cs role sight wanted = reports_lack_none (reached settings cs) role sight wanted (stamps_of_view settings cs) (rows_in_order settings cs)

-- ---- who sees them

pub seen_by_its_own : ReportsAreSeenByTheirOwn
seen_by_its_own base r = record { by_the_operator = refl; by_a_ven = λ ven. by ven (at nat_cmp r.1.body.head.resource base.portfolio.resources) refl }
  where
    by : (ven : ℕ) (o : Option Resource) → at nat_cmp r.1.body.head.resource base.portfolio.resources ≡ o
        → Decides (option_map_or (λ owner. owner == ven) (option_map (λ r. r.ven) o) false) ((resource : Resource) × (at nat_cmp r.1.body.head.resource base.portfolio.resources ≡ Some resource) × (resource.ven ≡ ven))
    by ven None is = (λ seen. absurd (false≢true seen), λ own. absurd (let no : None ≡ Some own.0 = sym is ∙ own.1 in cc))
    by ven (Some resource) is =
        let test = Decides-eqb resource.ven ven in
        (λ seen. (resource, is, test.0 seen), λ own. test.1 (ap (λ (r : Resource). r.ven) (same_Some resource own.0 (sym is ∙ own.1)) ∙ own.2))

-- ---- without a filter

and_true : (b : Bool) → (b && true) ≡ b
and_true true = refl
and_true false = refl

all_pass : {A : Type 0} (xs : List A) → filter (λ x. true) xs ≡ xs
all_pass [] = refl
all_pass (x ∷ xs) = ap (λ ys. x ∷ ys) (all_pass xs)

pub no_filter : NoFilterAsksForAll
no_filter base = record { in_sight = λ sight i. filter (λ r. and_true (sees_report base sight r) i) base.portfolio.reports; kept = all_pass base.portfolio.reports }
