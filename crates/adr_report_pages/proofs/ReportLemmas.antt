-- What is kept of the reports in sight tells what the state does.
use Rattle.std.proofs.Common.{◌≡◌, ℕ, Bool, true, false, cond, List, [], ◌∷◌, map, filter, Option, Some, None, refl, sym, ap, subst, ◌∙◌}
use Rattle.std.specs.Prelude.{is_some, option_map, option_and_then}
use Rattle.std.specs.List.{All, Contains, filter_map, cons_option}
use Rattle.std.specs.Option.{option_map_or}
use Rattle.std.proofs.lemmas.List.Elements.{All-cons, All-filter, All-head, All-nil, All-tail}
use Rattle.sqlite.specs.State as sql
use Rattle.adr_objects.specs.declared.shown.Stamps.{Stamps}
use Rattle.adr_state.specs.declared.keys.ViewKey.TheVariants as key
use Rattle.adr_state.specs.declared.portfolio.Report.{Report}
use Rattle.adr_state.specs.declared.state.State.{State}
use Rattle.adr_view.specs.declared.sight.Sight.{Sight}
use Rattle.adr_view.specs.declared.view.Content.TheVariants as content
use Rattle.adr_view.specs.Laws.{StandsInOrder}
use Rattle.adr_view.specs.Views.{report_row as row_shown, view}
use Rattle.adr_view.proofs.OtherLemmas.{others_shown}
use Rattle.adr_queries.specs.declared.answer.Object.{Object}
use Rattle.adr_queries.specs.declared.answer.Object.TheVariants as object
use Rattle.adr_queries.specs.declared.filter.ReportFilter.{ReportFilter}
use Rattle.adr_queries.specs.Filters.{is_wanted_report, wanted_reports}
use Rattle.adr_queries.specs.Listings.{page_of}
use Rattle.adr_queries.specs.Reported.{sees_report}
use Rattle.adr_queries.specs.Shown.{object_at, object_of}
use Rattle.adr_refresh.proofs.Common.{at, each_there, nat_cmp, nat_cmp_total, view_cmp}
use Rattle.adr_refresh.proofs.MapLemmas.{found}
use Rattle.adr_db.specs.Kept.{Kept, intervals_of}
use Rattle.adr_held.specs.Held.{kept_of, HoldsState}
use Rattle.adr_held.proofs.HeldLemmas.{held_keeps}
use Rattle.adr_lent.proofs.Cuts.{Makes, part_made}
use Rattle.adr_report_pages.specs.Columns.{Entry, columns_of, columns_in_sight, wants_columns, wanted_among}
use Rattle.adr_report_pages.specs.Laws.{ReportsAreTheirRows}
use Rattle.adr_report_pages.specs.Objects.{object_with, object_kept}

module _ (s : sql.State) (held : State) (holds : HoldsState held s) where
  stands : StandsInOrder held.base
  stands = (held_keeps s held holds).0

  abbrev kept : Kept
  kept = kept_of held

  abbrev reports : List (ℕ × Report)
  reports = held.base.portfolio.reports

  -- as it is shown, and by its columns
  abbrev as_shown : ℕ × Report → Option Object
  as_shown r = object_at held.stamps (row_shown r)

  abbrev as_kept : Entry → Option Object
  as_kept = object_kept kept

  -- a report that is kept is told alike: with its stamps, with its intervals, and wanted or not
  record IsTold (wanted : ReportFilter) (r : ℕ × Report) : Type 0 where
    told : Object
    shown_is : as_shown r ≡ Some told
    kept_is : as_kept (columns_of r) ≡ Some told
    wanted_is : is_wanted_report wanted told ≡ wants_columns wanted (columns_of r).1

  module _ (wanted : ReportFilter) where
    report_there : (r : ℕ × Report) → Contains reports r → IsTold wanted r
    report_there r there = by (at view_cmp (key.Report r.0) held.stamps) refl has
      where
        is_kept : at nat_cmp r.0 reports ≡ Some r.1
        is_kept = found nat_cmp_total reports r stands.reports there

        is_shown : at view_cmp (key.Report r.0) (view held.base) ≡ Some (content.Report r.1.body)
        is_shown = (others_shown held.base stands).reports r.0 ∙ ap (option_map (λ (r : Report). content.Report r.body)) is_kept

        has : is_some (at view_cmp (key.Report r.0) held.stamps) ≡ true
        has = holds.right.stamped.same_keys (key.Report r.0) ∙ ap is_some is_shown

        -- its own intervals
        whole : intervals_of r.0 kept ≡ r.1.body.intervals
        whole = ap (λ (o : Option Report). option_map_or (λ report. report.body.intervals) o []) is_kept

        by : (o : Option Stamps) → at view_cmp (key.Report r.0) held.stamps ≡ o → is_some (at view_cmp (key.Report r.0) held.stamps) ≡ true → IsTold wanted r
        by None is there = absurd (let none : is_some {T = Stamps} None ≡ true = subst (λ o. is_some o ≡ true) is there in cc)
        by (Some stamps) is there = record {
          told = object.Report (record { number = r.0; body = r.1.body; stamps = stamps });
          shown_is = ap (option_and_then (object_of (key.Report r.0) (content.Report r.1.body))) is;
          kept_is = λ i. object_with (columns_of r) (whole i) (is i);
          wanted_is = refl;
        }

    -- ---- some of them

    abbrev listed : List (ℕ × Report) → List Object
    listed rs = wanted_reports wanted (filter_map as_shown rs)

    abbrev selected : List (ℕ × Report) → List Entry
    selected rs = wanted_among wanted (map columns_of rs)

    record TellsAlike (rs : List (ℕ × Report)) : Type 0 where
      same : listed rs ≡ filter_map as_kept (selected rs)
      each : All (Makes as_kept) (selected rs)

    one_more : (r : ℕ × Report) (rs : List (ℕ × Report)) → IsTold wanted r → TellsAlike rs → TellsAlike (r ∷ rs)
    one_more r rs one rest =
        let e = columns_of r in
        record {
          same =
              ap (λ o. wanted_reports wanted (cons_option o (filter_map as_shown rs))) one.shown_is
              ∙ ap (λ b. cond b (one.told ∷ listed rs) (listed rs)) one.wanted_is
              ∙ by (wants_columns wanted e.1);
          each = each_by (wants_columns wanted e.1);
        }
      where
        by : (b : Bool) → cond b (one.told ∷ listed rs) (listed rs) ≡ filter_map as_kept (cond b (columns_of r ∷ selected rs) (selected rs))
        by true = ap (λ os. one.told ∷ os) rest.same ∙ sym (ap (λ o. cons_option o (filter_map as_kept (selected rs))) one.kept_is)
        by false = rest.same

        each_by : (b : Bool) → All (Makes as_kept) (cond b (columns_of r ∷ selected rs) (selected rs))
        each_by true = All-cons (Makes as_kept) (columns_of r) (selected rs) (ap is_some one.kept_is) rest.each
        each_by false = rest.each

    all_alike : (rs : List (ℕ × Report)) → All (IsTold wanted) rs → TellsAlike rs
    all_alike [] all = record { same = refl; each = All-nil (Makes as_kept) }
    all_alike (r ∷ rs) all = one_more r rs (All-head (IsTold wanted) r rs all) (all_alike rs (All-tail (IsTold wanted) r rs all))

    -- those in sight
    seen_alike : (sight : Sight) → TellsAlike (filter (sees_report held.base sight) reports)
    seen_alike sight = all_alike (filter (sees_report held.base sight) reports) (All-filter (sees_report held.base sight) (IsTold wanted) reports (each_there (IsTold wanted) reports report_there))

pub reports_are_rows : (s : sql.State) → ReportsAreTheirRows s
reports_are_rows s held sight wanted page objects holds are =
    let alike = seen_alike s held holds wanted sight in
    ap (page_of page) alike.same ∙ part_made (object_kept (kept_of held)) page.skip page.limit (wanted_among wanted (columns_in_sight (kept_of held) sight)) objects alike.each are
