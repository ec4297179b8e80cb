-- What is answered for an edit of the portfolio covers it.
use Rattle.std.proofs.Common.{◌≡◌, inl, inr, ℕ, true, false, List, [], ◌∷◌, ◌++◌, map, Option, Some, None, refl, sym, ap, subst, ◌∙◌}
use Rattle.std.specs.Prelude.{All, bytes_eq, option_map, option_and_then, option_to_list}
use Rattle.std.specs.List.{filter_map}
use Rattle.std.proofs.lemmas.List.{map-id}
use Rattle.std.proofs.lemmas.List.Elements.{Contains-append_cases}
use Rattle.adr_objects.specs.declared.kind.Kind.TheVariants as kind
use Rattle.adr_state.specs.declared.base.Base.{Base}
use Rattle.adr_state.specs.declared.keys.MirrorKey.{MirrorKey}
use Rattle.adr_state.specs.declared.keys.ViewKey.TheVariants as key
use Rattle.adr_state.specs.declared.portfolio.Report.{Report}
use Rattle.adr_state.specs.BaseChanges.{ChangePortfolio}
use Rattle.adr_state.specs.Portfolios.{PortfolioChange, PutShare, DropShare, PutReport, DropReport}
use Rattle.adr_view.specs.Rollups.{event_key}
use Rattle.adr_view.proofs.ListLemmas.{in_filter_map}
use Rattle.adr_refresh.specs.Sources.{Source, Reported, source_cmp, reported_rows}
use Rattle.adr_refresh.specs.Touched.{is_shared, not_frozen, event_reported, events_touched, reports_touched}
use Rattle.adr_refresh.proofs.Common.{All-cons, All-map, All-nil, Contains, Contains-append_left, Contains-append_right, IsStrictlySortedBy, at, each_there, exact_bytes, exact_unsigned, id_cmp, is_eq, nat_cmp, nat_cmp_total, nat_list_cmp_total, none_sorted, view_cmp}
use Rattle.adr_refresh.proofs.MapLemmas.{tied}
use Rattle.adr_db.specs.Bases.{Beside, kept_beside}
use Rattle.adr_db.specs.Kept.{Kept}
use Rattle.adr_db.proofs.Common.{map-map}
use Rattle.adr_kept_view.specs.declared.object.ObjectKey.{ObjectKey}
use Rattle.adr_kept_view.specs.declared.object.ObjectKey.TheVariants as object
use Rattle.adr_kept_view.specs.declared.object.OldObject.{OldObject}
use Rattle.adr_kept_view.specs.Objects.{view_key, shown_at, StoodIn}
use Rattle.adr_kept_view.proofs.ObjectLemmas.{kept_is_shown}
use Rattle.adr_touched.specs.declared.touched.Touched.{Touched}
use Rattle.adr_touched.specs.Answers.{HasEach, HasEvents, live_events}
use Rattle.adr_touched.specs.Touched.{StandsTouched, Covers, CoversShares, CoversReport, event_of, set_of, id_at, ids_of, old_object, ReportsStood}
use Rattle.adr_touched.proofs.InOrder.{set_sorted, set_has}
use Rattle.adr_touched.proofs.Stands.{turn_sorted, reports_by_keys, sources_by_keys, each_made, edit_covered}

-- ---- what stands in tables

-- what is found at keys is at these keys
pub keys_found : (kept : Kept) (keys : List ObjectKey) → map (λ (old : OldObject). old.key) (map (old_object kept) keys) ≡ keys
keys_found kept keys = map-map (λ (old : OldObject). old.key) (old_object kept) keys ∙ map-id keys

module _ (beside : Beside) (base : Base) where
  -- what tables keep at a key stood there in the base that they hold
  pub stood_kept : (k : ObjectKey) → StoodIn base (old_object (kept_beside beside base) k)
  stood_kept k = record { shown = sym (kept_is_shown beside base k); owned = refl }

  pub all_stood : (keys : List ObjectKey) → All (StoodIn base) (map (old_object (kept_beside beside base)) keys)
  all_stood keys = All-map (StoodIn base) (old_object (kept_beside beside base)) keys (each_there (λ k. StoodIn base (old_object (kept_beside beside base) k)) keys (λ k there. stood_kept k))

-- ---- events with their roll-ups, and reports

-- the ids of keys have each event whose key is there
pub ids_there : (keys : List MirrorKey) (ids : List (List ℕ)) → HasEvents keys ids → HasEach (ids_of kind.Event keys) ids
ids_there keys ids has id there = set_has exact_bytes (filter_map (id_at kind.Event) keys) id (in_filter_map (id_at kind.Event) keys (event_key id) id refl (has id there))

pub ids_sorted : (keys : List MirrorKey) → IsStrictlySortedBy id_cmp (ids_of kind.Event keys)
ids_sorted keys = set_sorted nat_list_cmp_total (filter_map (id_at kind.Event) keys)

-- what is answered of keys of events, and of reports
abbrev pub of_keys : List MirrorKey → List OldObject → Touched
of_keys keys olds = record { programs = []; events = ids_of kind.Event keys; reports = olds; rollups = ids_of kind.Event keys }

module _ (beside : Beside) (base : Base) (c : PortfolioChange) (keys : List MirrorKey) (olds : List OldObject) where
  pub shared_covered : HasEvents keys (events_touched c base) → ReportsStood (reports_touched c base) (kept_beside beside base) olds → Covers (ChangePortfolio c) base (of_keys keys olds)
  shared_covered events reports =
      let kept : Kept = kept_beside beside base in
      let numbers : List ℕ = set_of nat_cmp reports.read in
      let by_number : map (λ (old : OldObject). old.key) olds ≡ map object.Report numbers = ap (map (λ (old : OldObject). old.key)) reports.are ∙ keys_found kept (map object.Report numbers) in
      let t : Touched = of_keys keys olds in
      let up : IsStrictlySortedBy id_cmp (ids_of kind.Event keys) = ids_sorted keys in
      let has = ids_there keys (events_touched c base) events in
      edit_covered t c base
      (record {
        in_order = subst (IsStrictlySortedBy source_cmp) (sym (sources_by_keys [] numbers t (record { by_id = refl; by_number = by_number }))) (turn_sorted [] t.events numbers t.rollups (none_sorted id_cmp) up (set_sorted nat_cmp_total reports.read) up);
        programs = All-nil (StoodIn base);
        reports = subst (All (StoodIn base)) (sym reports.are) (all_stood beside base (map object.Report numbers));
      })
      (record {
        shared = λ is. has;
        reported = λ s there. subst (λ (ss : List Source). Contains ss s) (sym (reports_by_keys olds numbers by_number)) (each_made t Reported numbers (reports_touched c base) (λ n mine. set_has exact_unsigned reports.read n (reports.among n mine)) s there);
        rolled = has;
      })

-- where no reports are touched, none is answered
pub none_stood : (kept : Kept) → ReportsStood [] kept []
none_stood kept = record { read = []; among = λ n there. there; are = refl }

module _ (beside : Beside) (base : Base) (keys : List MirrorKey) where
  abbrev kept_then : Kept
  kept_then = kept_beside beside base

  pub events_covered : (c : PortfolioChange) → reports_touched c base ≡ [] → HasEvents keys (events_touched c base) → Covers (ChangePortfolio c) base (of_keys keys [])
  events_covered c none events = shared_covered beside base c keys [] events (subst (λ ns. ReportsStood ns kept_then []) (sym none) (none_stood kept_then))

  pub shares_covered : (program : List ℕ) → HasEvents keys (not_frozen base.portfolio (live_events (λ p. bytes_eq p program) kept_then)) → CoversShares program base (of_keys keys [])
  shares_covered program events =
      let of_program : (p : List ℕ) → p ≡ program → HasEvents keys (not_frozen base.portfolio (live_events (λ q. bytes_eq q p) kept_then)) = λ p is. subst (λ (p : List ℕ). HasEvents keys (not_frozen base.portfolio (live_events (λ q. bytes_eq q p) kept_then))) (sym is) events in
      record {
        put = λ key weight is. events_covered (PutShare key weight) refl (of_program key.program is);
        dropped = λ key is. events_covered (DropShare key) refl (of_program key.program is);
      }

-- ---- a report

-- the event that a report is on, by what is shown of it
event_shown : (n : ℕ) (o : Option Report) → option_to_list (option_and_then event_of (at view_cmp (key.Report n) (reported_rows n o))) ≡ option_to_list (option_map (λ (r : Report). r.body.head.event) o)
event_shown n None = refl
event_shown n (Some r) = let itself : is_eq (nat_cmp n n) ≡ true = tied nat_cmp_total n in rw itself refl

module _ (old : OldObject) (event : Option (List ℕ)) where
  -- the events that are rolled up again
  abbrev pub events_rolled : List (List ℕ)
  events_rolled = set_of id_cmp (option_to_list (option_and_then event_of old.content) ++ option_to_list event)

  -- what is answered of a report
  abbrev pub of_report : Touched
  of_report = record { programs = []; events = []; reports = old ∷ []; rollups = events_rolled }

  -- the one that is given is among them
  new_rolled : HasEach events_rolled (option_to_list event)
  new_rolled id there = set_has exact_bytes _ id (Contains-append_right (option_to_list (option_and_then event_of old.content)) (option_to_list event) id there)

  module _ (base : Base) (n : ℕ) (is : old.key ≡ object.Report n) (stood : StoodIn base old) where
    old_event : option_to_list (option_and_then event_of old.content) ≡ event_reported base.portfolio n
    old_event = ap (λ o. option_to_list (option_and_then event_of o)) (sym stood.shown ∙ ap (λ k. shown_at base (view_key k)) is) ∙ event_shown n (at nat_cmp n base.portfolio.reports)

    -- and so is that of the report that stood there
    old_rolled : HasEach events_rolled (event_reported base.portfolio n)
    old_rolled id there = set_has exact_bytes _ id (Contains-append_left (option_to_list (option_and_then event_of old.content)) (option_to_list event) id (subst (λ ids. Contains ids id) (sym old_event) there))

    both_rolled : (new : List ℕ) → event ≡ Some new → HasEach events_rolled (new ∷ event_reported base.portfolio n)
    both_rolled new same id there = elim (Contains-append_cases (new ∷ []) (event_reported base.portfolio n) id there) [
      | inl one ↦ new_rolled id (subst (λ o. Contains (option_to_list o) id) (sym same) one)
      | inr other ↦ old_rolled id other
    ]

    by_number : map (λ (o : OldObject). o.key) (old ∷ []) ≡ map object.Report (n ∷ [])
    by_number = ap (λ k. k ∷ []) is

    stands : StandsTouched base of_report
    stands = record {
      in_order = subst (IsStrictlySortedBy source_cmp) (sym (sources_by_keys [] (n ∷ []) of_report (record { by_id = refl; by_number = by_number }))) (turn_sorted [] [] (n ∷ []) events_rolled (none_sorted id_cmp) (none_sorted id_cmp) (set_sorted nat_cmp_total (n ∷ [])) (set_sorted nat_list_cmp_total (option_to_list (option_and_then event_of old.content) ++ option_to_list event)));
      programs = All-nil (StoodIn base);
      reports = All-cons (StoodIn base) old [] stood (All-nil (StoodIn base));
    }

    edit_of_report : (c : PortfolioChange) → is_shared c ≡ false → reports_touched c base ≡ n ∷ [] → HasEach events_rolled (events_touched c base) → Covers (ChangePortfolio c) base of_report
    edit_of_report c alone its rolled = edit_covered of_report c base stands (record {
      shared = λ shared. absurd (let no : true ≡ false = sym shared ∙ alone in cc);
      reported = λ s there. subst (λ (ss : List Source). Contains ss s) (sym (reports_by_keys (old ∷ []) (n ∷ []) by_number)) (subst (λ ns. Contains (map Reported ns) s) its there);
      rolled = rolled;
    })

  pub report_covered : CoversReport old event of_report
  report_covered = record {
    put = λ base n report is stood same. edit_of_report base n is stood (PutReport n report) refl refl (both_rolled base n is stood report.body.head.event same);
    dropped = λ base n is stood. edit_of_report base n is stood (DropReport n) refl refl (old_rolled base n is stood);
  }
