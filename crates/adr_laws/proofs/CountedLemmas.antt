-- The value that counts is the one that was reported last: the greatest revision is that of the last that was written, of those that are there still.
use Rattle.std.proofs.Common.{◌≡◌, ◌<◌, ◌≤◌, ◌==◌, ◌&&◌, ℕ, ℤ, Bool, true, false, cond, List, map, filter, Option, Some, None, refl, sym, ap, subst, ◌∙◌, arith}
use Rattle.std.specs.Prelude.{IfSome, option_map, option_and_then}
use Rattle.std.specs.List.{filter_map}
use Rattle.std.specs.Option.{option_map_or}
use Rattle.std.specs.Str.{bytes_eq}
use Rattle.adr_split.specs.FairSplit.{sum_of_parts}
use Rattle.std.proofs.lemmas.Bool.{and_parts, and_from}
use Rattle.std.proofs.lemmas.List.Elements.{filter_passes}
use Rattle.std.proofs.lemmas.Option.{same_Some}
use Rattle.adr_laws.proofs.Common.{All, All-contains, All-contains_itself, All-filter, All-weaker, Contains, Contains-from_lookup, eq_by_cmp_equiv, exact_unsigned, tells_apart, lookup-from_Contains, IsDistinct-from_sorted, keys_of, values_of, nat_cmp, nat_cmp_total, unsigned_Decides, Base, Settings, State, Command, at, mirror_cmp, empty, step_at}
use Rattle.adr_objects.specs.declared.body.Body.TheVariants as body
use Rattle.adr_objects.specs.declared.body.EventBody.{EventBody}
use Rattle.adr_objects.specs.declared.report.ReportBody.{ReportBody}
use Rattle.adr_objects.specs.declared.report.Rollup.{Rollup}
use Rattle.adr_objects.specs.declared.report.RollupInterval.{RollupInterval}
use Rattle.adr_state.specs.declared.base.Mark.{Mark}
use Rattle.adr_state.specs.declared.base.Mark.TheVariants.{Live, Dead}
use Rattle.adr_state.specs.declared.participants.Participant.{Participant}
use Rattle.adr_state.specs.declared.portfolio.Report.{Report}
use Rattle.adr_state.specs.Participants.{participants}
use Rattle.adr_view.specs.declared.rollup.Reporter.{Reporter}
use Rattle.adr_view.specs.declared.view.Content.TheVariants as content
use Rattle.adr_view.specs.Laws.{CountsEachOnce}
use Rattle.adr_view.specs.Rollups.{usage_in, value_in, latest_of, latest, reports_of, reports_on, reporter_of, reporters, rollup_of, rollup_at, event_key, event_body}
use Rattle.adr_view.specs.Same.{is_same_report}
use Rattle.adr_view.proofs.LatestLemmas.{latest_is_greatest}
use Rattle.adr_view.proofs.LawLemmas.{contents_equal}
use Rattle.adr_view.proofs.ListLemmas.{in_map, from_map, in_filter}
use Rattle.adr_view.proofs.OtherLemmas.{others_shown}
use Rattle.adr_view.proofs.RollupLemmas.{counts_each_once}
use Rattle.adr_view.proofs.RowLemmas.{each_there, from_filter}
use Rattle.adr_view.proofs.ShownLemmas.{participants_rise}
use Rattle.adr_laws.specs.Reported.{written, last_of, last_written, is_there_still, usage_on, last_reported, ReportsAreLastWritten, LatestIsLastReported, SumsTheLast, IsOfTheLast, RollupsAreOfTheLast}
use Rattle.adr_laws.specs.Standing.{state_of}
use Rattle.adr_laws.proofs.LastLemmas.{none_made, last_made, made_of_passing, made_of_made}
use Rattle.adr_laws.proofs.NumberLemmas.{numbers_apart}
use Rattle.adr_laws.proofs.PortfolioLemmas.{rows_in_order}
use Rattle.adr_laws.proofs.WrittenLemmas.{AreWritten, IsWritten, written_after}

-- what is said of two reports that count as the same is said of one
same_bodies : (a b : ReportBody) → is_same_report a b ≡ true → a ≡ b
same_bodies a b is = let same : content.Report a ≡ content.Report b = (contents_equal (content.Report a) (content.Report b)).0 is in cc

same_itself : (a : ReportBody) → is_same_report a a ≡ true
same_itself a = (contents_equal (content.Report a) (content.Report a)).1 refl

-- nothing is there, where whatever is leads nowhere
none_by : {A : Type 0} (o : Option A) → ((x : A) → o ≡ Some x → ⊥) → o ≡ None
none_by None never = refl
none_by (Some x) never = absurd (never x refl)

-- what passes a test
passing : {A : Type 0} (passes : A → Bool) (xs : List A) (x : A) → Contains (filter passes xs) x → Contains xs x × (passes x ≡ true)
passing passes xs x there = (All-contains (Contains xs) (filter passes xs) x (All-filter passes (Contains xs) xs (All-contains_itself xs)) there, All-contains (λ x. passes x ≡ true) (filter passes xs) x (filter_passes passes xs) there)

-- ---- of reports that are there, and all that was written

module _ {serial : ℕ} {reports : List (ℕ × Report)} {revised : List (ℕ × (ℕ × ReportBody))} (h : AreWritten serial reports revised) where
  found : (n : ℕ) (r : Report) → Contains reports (n, r) → at nat_cmp n reports ≡ Some r
  found n r there = lookup-from_Contains (eq_by_cmp_equiv nat_cmp_total) n r reports (IsDistinct-from_sorted nat_cmp (keys_of reports) h.in_order) there

  -- each is the last of its number
  last_of_number : (r : ℕ × Report) → Contains reports r → last_written r.0 (values_of revised) ≡ Some r.1.body
  last_of_number r there =
      last_made one revised h.rise (r.1.revision, (r.0, r.1.body)) (h.there r there) r.1.body (rw ((unsigned_Decides r.0 r.0).1 refl) refl)
      (All-weaker (λ w. w.1.0 ≡ r.0 → w.0 ≤ r.1.revision) (λ w. r.1.revision < w.0 → one w.1 ≡ None) (λ w low later. by w (w.1.0 == r.0) refl low later) revised (h.last r there))
    where
      one : ℕ × ReportBody → Option ReportBody
      one w = cond (w.0 == r.0) (Some w.1) None

      by : (w : ℕ × (ℕ × ReportBody)) (b : Bool) → (w.1.0 == r.0) ≡ b → (w.1.0 ≡ r.0 → w.0 ≤ r.1.revision) → r.1.revision < w.0 → cond b (Some w.1.1) None ≡ None
      by w true is low later = absurd (let most = low ((unsigned_Decides w.1.0 r.0).0 is) in omega (arith, most, later))
      by w false is low later = refl

  module _ (event : List ℕ) (resource : ℕ) (id : ℤ) where
    abbrev on_it : List Report
    on_it = reports_on resource (reports_of event reports)

    -- the value of what was written, where it counts
    abbrev counted : ℕ × ReportBody → Option ℤ
    counted w = cond (is_there_still reports w) (usage_on event resource id w.1) None

    -- it is that of a report on the event and the resource
    record IsCounted (w : ℕ × ReportBody) (v : ℤ) : Type 0 where
      report : Report
      is_there : at nat_cmp w.0 reports ≡ Some report
      is_on_it : Contains on_it report
      says : usage_in id report.body.intervals ≡ Some v

    of_counted : (w : ℕ × ReportBody) (v : ℤ) → counted w ≡ Some v → IsCounted w v
    of_counted w v = by (at nat_cmp w.0 reports) refl
      where
        on_test : ReportBody → Bool
        on_test b = bytes_eq b.head.event event && (b.head.resource == resource)

        by_on : (r : Report) → at nat_cmp w.0 reports ≡ Some r → r.body ≡ w.1 → (b : Bool) → on_test w.1 ≡ b → cond b (usage_in id w.1.intervals) None ≡ Some v → IsCounted w v
        by_on r is same false on says = absurd (cc)
        by_on r is same true on says =
            let tests = and_parts (bytes_eq r.body.head.event event) (r.body.head.resource == resource) (ap on_test same ∙ on) in
            let row : Contains reports (w.0, r) = Contains-from_lookup (tells_apart exact_unsigned) w.0 r reports is in
            let of_event : Contains (reports_of event reports) r = in_map (λ r. r.1) (filter (λ r. bytes_eq r.1.body.head.event event) reports) (w.0, r) (in_filter (λ r. bytes_eq r.1.body.head.event event) reports (w.0, r) tests.0 row) in
            record {
              report = r;
              is_there = is;
              is_on_it = in_filter (λ r. r.body.head.resource == resource) (reports_of event reports) r tests.1 of_event;
              says = ap (λ b. usage_in id b.intervals) same ∙ says;
            }

        by_same : (r : Report) → at nat_cmp w.0 reports ≡ Some r → (b : Bool) → is_same_report r.body w.1 ≡ b → cond b (usage_on event resource id w.1) None ≡ Some v → IsCounted w v
        by_same r is false same counts = absurd (cc)
        by_same r is true same counts = by_on r is (same_bodies r.body w.1 same) (on_test w.1) refl counts

        by : (o : Option Report) → at nat_cmp w.0 reports ≡ o → cond (option_map_or (λ r. is_same_report r.body w.1) o false) (usage_on event resource id w.1) None ≡ Some v → IsCounted w v
        by None is counts = absurd (cc)
        by (Some r) is counts = by_same r is (is_same_report r.body w.1) refl counts

    -- and of each of these that is there what was written counts
    record IsRow (report : Report) : Type 0 where
      number : ℕ
      is_there : Contains reports (number, report)
      is_on_event : bytes_eq report.body.head.event event ≡ true
      is_on_resource : (report.body.head.resource == resource) ≡ true

    row_of : (report : Report) → Contains on_it report → IsRow report
    row_of report there =
        let on_resource = passing (λ (r : Report). r.body.head.resource == resource) (reports_of event reports) report there in
        let row = from_map (λ (r : ℕ × Report). r.1) (filter (λ r. bytes_eq r.1.body.head.event event) reports) report on_resource.0 in
        let on_event = from_filter (λ (r : ℕ × Report). bytes_eq r.1.body.head.event event) reports row.0 row.1 in
        record {
          number = row.0.0;
          is_there = subst (λ r. Contains reports (row.0.0, r)) (sym row.2) on_event.0;
          is_on_event = ap (λ (r : Report). bytes_eq r.body.head.event event) row.2 ∙ on_event.1;
          is_on_resource = on_resource.1;
        }

    counts_of : (report : Report) (r : IsRow report) → counted (r.number, report.body) ≡ usage_in id report.body.intervals
    counts_of report r =
        let there : is_there_still reports (r.number, report.body) ≡ true = ap (λ o. option_map_or (λ (r : Report). is_same_report r.body report.body) o false) (found r.number report r.is_there) ∙ same_itself report.body in
        ap (λ b. cond b (usage_on event resource id report.body) None) there
        ∙ ap (λ b. cond b (usage_in id report.body.intervals) None) (and_from (bytes_eq report.body.head.event event) (report.body.head.resource == resource) r.is_on_event r.is_on_resource)

    -- of a value its revision and what it says
    value_says : (report : Report) (best : ℕ × ℤ) → value_in id report ≡ Some best → (report.revision ≡ best.0) × (usage_in id report.body.intervals ≡ Some best.1)
    value_says report best = by (usage_in id report.body.intervals)
      where
        by : (o : Option ℤ) → option_map (λ usage. (report.revision, usage)) o ≡ Some best → (report.revision ≡ best.0) × (o ≡ Some best.1)
        by None is = absurd (cc)
        by (Some u) is = let same : (report.revision, u) ≡ best = same_Some (report.revision, u) best is in (ap (λ (b : ℕ × ℤ). b.0) same, ap (λ (b : ℕ × ℤ). Some b.1) same)

    value_of : (report : Report) (v : ℤ) → usage_in id report.body.intervals ≡ Some v → value_in id report ≡ Some (report.revision, v)
    value_of report v is = ap (option_map (λ usage. (report.revision, usage))) is

    latest_counts : latest id on_it ≡ last_of (filter_map counted (values_of revised))
    latest_counts = by (latest_of id on_it) refl
      where
        none_counts : latest_of id on_it ≡ None → (w : ℕ × ReportBody) → counted w ≡ None
        none_counts none w = none_by (counted w) (λ v is.
            let c = of_counted w v is in
            let no : value_in id c.report ≡ None = All-contains (λ r. value_in id r ≡ None) on_it c.report (latest_is_greatest.of_none id on_it none) c.is_on_it in
            let some : value_in id c.report ≡ Some (c.report.revision, v) = value_of c.report v c.says in
            absurd (let never : None ≡ Some (c.report.revision, v) = sym no ∙ some in cc))

        by : (o : Option (ℕ × ℤ)) → latest_of id on_it ≡ o → option_map (λ v. v.1) o ≡ last_of (filter_map counted (values_of revised))
        by None is = ap last_of (sym (none_made counted (values_of revised) (each_there (λ w. counted w ≡ None) (values_of revised) (λ w there. none_counts is w))))
        by (Some best) is =
            let g = latest_is_greatest.of_some id on_it best is in
            let r : IsRow g.report = row_of g.report g.is_there in
            let says = value_says g.report best g.has_it in
            sym (last_made counted revised h.rise (g.report.revision, (r.number, g.report.body)) (h.there (r.number, g.report) r.is_there) best.1 (counts_of g.report r ∙ says.1)
            (each_there (λ w. g.report.revision < w.0 → counted w.1 ≡ None) revised (λ w among later. none_by (counted w.1) (λ v counts.
            let c = of_counted w.1 v counts in
            let its : w.0 ≤ c.report.revision = All-contains (λ d. d.1.0 ≡ w.1.0 → d.0 ≤ c.report.revision) revised w (h.last (w.1.0, c.report) (Contains-from_lookup (tells_apart exact_unsigned) w.1.0 c.report reports c.is_there)) among refl in
            let most : c.report.revision ≤ best.0 =
            subst (λ o. IfSome o (λ v. v.0 ≤ best.0)) (value_of c.report v c.says) (All-contains (λ r. IfSome (value_in id r) (λ v. v.0 ≤ best.0)) on_it c.report g.none_is_greater c.is_on_it) in
            let greatest : g.report.revision ≡ best.0 = says.0 in
            omega (arith, its, most, greatest, later)))))

    counts_last : latest id on_it ≡ last_reported reports (values_of revised) event resource id
    counts_last = latest_counts ∙ ap last_of (sym (made_of_passing (λ w. usage_on event resource id w.1) (is_there_still reports) (values_of revised)))

-- ---- after runs

pub reports_last_written : ReportsAreLastWritten
reports_last_written settings cs =
    let s : State = state_of (step_at settings) empty cs in
    let h : IsWritten (written settings empty cs) s.base = written_after settings cs in
    each_there (λ r. last_written r.0 (written settings empty cs) ≡ Some r.1.body) s.base.portfolio.reports (λ r there. ap (last_written r.0) (sym h.2) ∙ last_of_number h.1 r there)

pub latest_last_reported : LatestIsLastReported
latest_last_reported settings cs event resource id =
    let s : State = state_of (step_at settings) empty cs in
    let h : IsWritten (written settings empty cs) s.base = written_after settings cs in
    counts_last h.1 event resource id ∙ ap (λ writes. last_reported s.base.portfolio.reports writes event resource id) h.2

-- ---- roll-ups

module _ (settings : Settings) (cs : List (ℕ × Command)) where
  abbrev base : Base
  base = (state_of (step_at settings) empty cs).base

  abbrev writes : List (ℕ × ReportBody)
  writes = written settings empty cs

  module _ (id : List ℕ) (event : EventBody) where
    abbrev ps : List Participant
    ps = participants base.portfolio id event

    abbrev reported : Participant → Reporter
    reported = reporter_of (reports_of id base.portfolio.reports)

    interval_sums : (i : RollupInterval) → CountsEachOnce (reporters (reports_of id base.portfolio.reports) ps) i → SumsTheLast (last_reported base.portfolio.reports writes id) ps i
    interval_sums i counts =
        let value : (p : Participant) → latest i.id (reported p).reports ≡ last_reported base.portfolio.reports writes id p.resource i.id = λ p. latest_last_reported settings cs id p.resource i.id in
        let named = counts.named_where_it_lacks in
        record {
          sum_of_the_last = counts.sum_of_the_latest ∙ ap sum_of_parts (made_of_made (λ (r : Reporter). latest i.id r.reports) reported (λ p. last_reported base.portfolio.reports writes id p.resource i.id) value ps);
          who_has_none_is_named = λ p there none. named.who_lacks_is_named (reported p) (in_map reported ps p there) (value p ∙ none);
          who_is_named_has_none = λ name there.
              let r = named.who_is_named_lacks name there in
              let p = from_map reported ps r.0 r.1 in
              (p.0, p.1, sym (value p.0) ∙ ap (λ (r : Reporter). latest i.id r.reports) (sym p.2) ∙ r.2, ap (λ (r : Reporter). r.name) (sym p.2) ∙ r.3);
        }

    of_the_last : (moment : ℕ) (rollup : Rollup) → at mirror_cmp (event_key id) base.mirror ≡ Some (Live moment (body.Event event)) → rollup_of base.portfolio id event ≡ Some rollup → IsOfTheLast base writes id rollup
    of_the_last moment rollup live is =
        let rs : List Reporter = reporters (reports_of id base.portfolio.reports) ps in
        let counts : All (CountsEachOnce rs) rollup.intervals = subst (λ o. IfSome o (λ (rollup : Rollup). All (CountsEachOnce rs) rollup.intervals)) is (counts_each_once.each_by_its_latest event rs) in
        record {
          event = event;
          is_live = (moment, live);
          no_two_are_one = numbers_apart (map (λ p. p.resource) ps) (participants_rise base (rows_in_order settings cs) id event);
          sums_the_last = All-weaker (CountsEachOnce rs) (SumsTheLast (last_reported base.portfolio.reports writes id) ps) interval_sums rollup.intervals counts;
        }

  by_mark : (id : List ℕ) (rollup : Rollup) (mark : Option Mark) → at mirror_cmp (event_key id) base.mirror ≡ mark → option_and_then (rollup_of base.portfolio id) (event_body mark) ≡ Some rollup → IsOfTheLast base writes id rollup
  by_mark id rollup None known is = absurd (cc)
  by_mark id rollup (Some Dead) known is = absurd (cc)
  by_mark id rollup (Some (Live moment (body.Program name))) known is = absurd (cc)
  by_mark id rollup (Some (Live moment (body.Event event))) known is = of_the_last id event moment rollup known is
  by_mark id rollup (Some (Live moment (body.Opaque reason))) known is = absurd (cc)

same_rollup : (o : Option Rollup) (rollup : Rollup) → option_map (λ r. content.Rollup r) o ≡ Some (content.Rollup rollup) → o ≡ Some rollup
same_rollup None rollup h = absurd (cc)
same_rollup (Some r) rollup h = let same : r ≡ rollup = cc in ap (λ r. Some r) same

pub rollups_of_the_last : RollupsAreOfTheLast
rollups_of_the_last settings cs id rollup shown =
    let b : Base = (state_of (step_at settings) empty cs).base in
    by_mark settings cs id rollup (at mirror_cmp (event_key id) b.mirror) refl (same_rollup (rollup_at b.mirror b.portfolio id) rollup (sym ((others_shown b (rows_in_order settings cs)).rollups id) ∙ shown))
