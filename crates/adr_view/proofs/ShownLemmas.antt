-- The view as it is made: the rows of each mark as they stand, and among them those of one event.
use Rattle.std.proofs.Common.{◌≡◌, ◌≤◌, ◌<◌, ℕ, ◌+◌, Bool, false, cond, List, [], ◌∷◌, ◌++◌, map, filter, Option, Some, None, refl, sym, ap, subst, ◌∙◌, arith}
use Rattle.std.specs.Prelude.{IfSome, option_map, option_and_then}
use Rattle.std.specs.List.{enumerate_from}
use Rattle.std.proofs.lemmas.Cmp.{nat_list_cmp_total, tied_itself}
use Rattle.adr_view.proofs.Common.{All, All-append, All-contains, All-map, All-weaker, append-nil, filter-append, flat_map, IsStrictlySortedBy, IsTotalOrder, keys_of, cond_both, nat_cmp, is_eq, Base, at, mirror_cmp, view_cmp, map-map}
use Rattle.adr_objects.specs.declared.body.EventBody.{EventBody}
use Rattle.adr_objects.specs.declared.kind.Kind.{Kind}
use Rattle.adr_objects.specs.declared.kind.Kind.TheVariants as kind
use Rattle.adr_objects.specs.declared.report.Rollup.{Rollup}
use Rattle.adr_state.specs.contracts.keys.ViewKeyOrd.TheImpl.Laws.{total-law}
use Rattle.adr_state.specs.declared.base.Mark.{Mark}
use Rattle.adr_state.specs.declared.keys.MirrorKey.{MirrorKey}
use Rattle.adr_state.specs.declared.keys.ViewKey.{ViewKey}
use Rattle.adr_state.specs.declared.keys.ViewKey.TheVariants as key
use Rattle.adr_state.specs.declared.portfolio.Portfolio.{Portfolio}
use Rattle.adr_state.specs.declared.portfolio.Resource.{Resource}
use Rattle.adr_state.specs.declared.portfolio.Ven.{Ven}
use Rattle.adr_state.specs.declared.portfolio.Report.{Report}
use Rattle.adr_state.specs.Keys.{place_of}
use Rattle.adr_state.specs.declared.participants.Participant.{Participant}
use Rattle.adr_state.specs.Participants.{weight_in, participant_of, participants}
use Rattle.adr_state.proofs.KeyLemmas.{view_order}
use Rattle.adr_view.specs.declared.parts.SplitInterval.{SplitInterval}
use Rattle.adr_view.specs.declared.view.Content.{Content}
use Rattle.adr_view.specs.Laws.{StandsInOrder, ShownIsOfTheView, is_key_of}
use Rattle.adr_view.specs.Rollups.{event_key}
use Rattle.adr_view.specs.Views.{event_row, rows_for, carries, program_rows, event_rows, mark_rows, rows_known, report_row, rolled_up, event_of, rollup_rows, rows_shown, view}
use Rattle.adr_view.proofs.KeyLemmas.{mirror_exact, apart, IsMadeOf, IsRolledUpOf, stand_alike, roll_up_alike}
use Rattle.adr_view.proofs.ListLemmas.{all_flat, map_filter_map, sorted_map, in_order_filter_map, in_order_append, in_order_flat, filter_alike, filter_flat}
use Rattle.adr_view.proofs.OrderLemmas.{InOrder, none_sorted, in_order_rows, made_in_order}
use Rattle.adr_view.proofs.RowLemmas.{each_there}
use Rattle.adr_view.proofs.ViewLemmas.{by_mark, each_by_mark, each_rollup}

pub view_total : IsTotalOrder view_cmp
view_total = subst IsTotalOrder view_order total-law

-- what is shown stands in order
pub shown_in_order : (base : Base) → InOrder view_cmp (view base)
unfolding view
shown_in_order base = in_order_rows view_total [] (rows_shown base) (none_sorted view_cmp)

-- ---- the rows of an event

-- their keys, one of each participant
pub keys_shown : (id : List ℕ) (event : EventBody) (is : List SplitInterval) (n : ℕ) (ps : List Participant) → keys_of (map (event_row id event is) (enumerate_from n ps)) ≡ map (λ k. key.Event id k) (map (λ p. p.resource) ps)
keys_shown id event is n [] = refl
keys_shown id event is n (p ∷ ps) = ap (λ ks. key.Event id p.resource ∷ ks) (keys_shown id event is (n + 1) ps)

module _ (portfolio : Portfolio) (rise : IsStrictlySortedBy nat_cmp (keys_of portfolio.resources)) where
  abbrev by_number : Participant → ℕ × Participant
  by_number p = (p.resource, p)

  -- participants stand in the order of their numbers
  pub by_number_rise : (id : List ℕ) (event : EventBody) → IsStrictlySortedBy nat_cmp (map (λ p. p.resource) (participants portfolio id event))
  by_number_rise id event =
      let one : ℕ × Resource → Option (ℕ × Participant) = λ r. option_map by_number (participant_of portfolio id event r) in
      subst (IsStrictlySortedBy nat_cmp)
      (ap keys_of (sym (map_filter_map (participant_of portfolio id event) by_number one portfolio.resources (λ i d l. refl))) ∙ map-map (λ (e : ℕ × Participant). e.0) by_number (participants portfolio id event))
      (in_order_filter_map nat_cmp one own portfolio.resources rise)
    where
      own : (r : ℕ × Resource) → IfSome (option_map by_number (participant_of portfolio id event r)) (λ e. e.0 ≡ r.0)
      own r = by (weight_in portfolio id event r) (at nat_cmp r.1.ven portfolio.vens)
        where
          by : (weight : Option ℕ) (ven : Option Ven) → IfSome (option_map by_number (option_and_then (λ (w : ℕ). option_map (λ (v : Ven). record { resource = r.0; weight = w; name = r.1.name; ven_name = v.name }) ven) weight)) (λ e. e.0 ≡ r.0)
          by None ven = tt
          by (Some w) None = tt
          by (Some w) (Some v) = refl

module _ (base : Base) (stands : StandsInOrder base) where
  pub participants_rise : (id : List ℕ) (event : EventBody) → IsStrictlySortedBy nat_cmp (map (λ p. p.resource) (participants base.portfolio id event))
  participants_rise = by_number_rise base.portfolio stands.resources

  program_in_order : (id name : List ℕ) → InOrder view_cmp (program_rows id name)
  unfolding IsStrictlySortedBy
  program_in_order id name = (tt, tt)

  event_in_order : (id : List ℕ) (event : EventBody) → InOrder view_cmp (event_rows base id event)
  event_in_order id event =
      let ps = participants base.portfolio id event in
      let keys : IsStrictlySortedBy view_cmp (map (λ k. key.Event id k) (map (λ p. p.resource) ps)) =
      sorted_map nat_cmp view_cmp (λ k. key.Event id k) (λ m n less. rw (tied_itself nat_list_cmp_total id) less) (map (λ p. p.resource) ps) (participants_rise id event) in
      cond_both (carries event) (rows_for id event ps) [] (InOrder view_cmp) (λ some. subst (IsStrictlySortedBy view_cmp) (sym (keys_shown id event _ 0 ps)) keys) (λ none. none_sorted view_cmp)

-- ---- reports and roll-ups

keys_reported : (reports : List (ℕ × Report)) → keys_of (map report_row reports) ≡ map (λ n. key.Report n) (keys_of reports)
keys_reported [] = refl
keys_reported (r ∷ reports) = ap (λ ks. key.Report r.0 ∷ ks) (keys_reported reports)

reports_in_order : (reports : List (ℕ × Report)) → IsStrictlySortedBy nat_cmp (keys_of reports) → InOrder view_cmp (map report_row reports)
reports_in_order reports rise = subst (IsStrictlySortedBy view_cmp) (sym (keys_reported reports)) (sorted_map nat_cmp view_cmp (λ n. key.Report n) (λ m n less. less) (keys_of reports) rise)

rollup_in_order : (id : List ℕ) (rollup : Option Rollup) → InOrder view_cmp (rolled_up id rollup)
unfolding IsStrictlySortedBy
rollup_in_order id None = tt
rollup_in_order id (Some rollup) = (tt, tt)

-- only an event is rolled up
of_event : (k : Kind) (mark : Mark) (event : EventBody) → event_of k mark ≡ Some event → k ≡ kind.Event
of_event kind.Program mark event is = absurd (cc)
of_event kind.Event mark event is = refl

pub event_rolled_up : (e : MirrorKey × Mark) (event : EventBody) → event_of e.0.kind e.1 ≡ Some event → e.0 ≡ event_key e.0.id
event_rolled_up e event is = let its = of_event e.0.kind e.1 event is in λ i. record { kind = its i; id = e.0.id }

-- ---- the view

module _ (base : Base) where
  -- the key of each row was made of the upstream key of its mark
  pub its_key : (e : MirrorKey × Mark) → All (λ r. IsMadeOf r.0 e.0) (mark_rows base e)
  its_key = each_by_mark base (λ k r. IsMadeOf r.0 k) (λ id name. refl) (λ id event splits p. refl)

  rollup_key : (e : MirrorKey × Mark) → All (λ r. IsRolledUpOf r.0 e.0) (rollup_rows base e)
  rollup_key e = each_rollup base (λ r. IsRolledUpOf r.0 e.0) e (λ event rollup is made. event_rolled_up e event is)

  -- where they stand
  abbrev pub shown_first : List (ViewKey × Content)
  shown_first = flat_map (mark_rows base) base.mirror

  abbrev pub then_reports : List (ViewKey × Content)
  then_reports = map report_row base.portfolio.reports

  abbrev pub then_rollups : List (ViewKey × Content)
  then_rollups = flat_map (rollup_rows base) base.mirror

  first_are : All (λ r. place_of r.0 < 2) shown_first
  first_are =
      all_flat (mark_rows base) (λ r. place_of r.0 < 2) base.mirror
      (each_there (λ e. All (λ r. place_of r.0 < 2) (mark_rows base e)) base.mirror (λ e there. each_by_mark base (λ k r. place_of r.0 < 2) (λ id name. omega arith) (λ id event splits p. omega arith) e))

  reports_are : All (λ r. place_of r.0 ≡ 2) then_reports
  reports_are = All-map (λ r. place_of r.0 ≡ 2) report_row base.portfolio.reports (each_there (λ r. place_of (report_row r).0 ≡ 2) base.portfolio.reports (λ r there. refl))

  rollups_are : All (λ r. place_of r.0 ≡ 3) then_rollups
  rollups_are =
      all_flat (rollup_rows base) (λ r. place_of r.0 ≡ 3) base.mirror
      (each_there (λ e. All (λ r. place_of r.0 ≡ 3) (rollup_rows base e)) base.mirror (λ e there. each_rollup base (λ r. place_of r.0 ≡ 3) e (λ event rollup is made. refl)))

module _ (base : Base) (stands : StandsInOrder base) where
  first_in_order : InOrder view_cmp (shown_first base)
  first_in_order =
      in_order_flat mirror_cmp view_cmp IsMadeOf stand_alike (mark_rows base) (its_key base) (by_mark base (λ k rows. InOrder view_cmp rows) (λ k. none_sorted view_cmp) (program_in_order base stands) (event_in_order base stands)) base.mirror stands.upstream_keys

  rollups_in_order : InOrder view_cmp (then_rollups base)
  rollups_in_order = in_order_flat mirror_cmp view_cmp IsRolledUpOf roll_up_alike (rollup_rows base) (rollup_key base) (λ e. rollup_in_order e.0.id _) base.mirror stands.upstream_keys

  pub view_made : view base ≡ rows_shown base
  unfolding view
  view_made =
      let low : All (λ r. place_of r.0 < 3) (shown_first base ++ then_reports base) =
      All-append (λ r. place_of r.0 < 3) (shown_first base) (then_reports base) (All-weaker (λ r. place_of r.0 < 2) (λ r. place_of r.0 < 3) (λ r less. omega (arith, less)) (shown_first base) (first_are base))
      (All-weaker (λ r. place_of r.0 ≡ 2) (λ r. place_of r.0 < 3) (λ r is. omega (arith, is)) (then_reports base) (reports_are base)) in
      made_in_order view_total (rows_shown base)
      (in_order_append view_cmp (shown_first base ++ then_reports base) (then_rollups base)
      (in_order_append view_cmp (shown_first base) (then_reports base) first_in_order (reports_in_order base.portfolio.reports stands.reports) (λ a b one other.
      let is : place_of a.0 < 2 = All-contains (λ r. place_of r.0 < 2) (shown_first base) a (first_are base) one in
      let its : place_of b.0 ≡ 2 = All-contains (λ r. place_of r.0 ≡ 2) (then_reports base) b (reports_are base) other in
      apart a.0 b.0 (omega (arith, is, its)))) rollups_in_order (λ a b one other.
      let is : place_of a.0 < 3 = All-contains (λ r. place_of r.0 < 3) (shown_first base ++ then_reports base) a low one in
      let its : place_of b.0 ≡ 3 = All-contains (λ r. place_of r.0 ≡ 3) (then_rollups base) b (rollups_are base) other in
      apart a.0 b.0 (omega (arith, is, its))))

-- ---- the rows of one event in it

module _ (base : Base) (id : List ℕ) where
  abbrev passes : ViewKey × Content → Bool
  passes r = is_key_of id r.0

  -- the rows of a mark are all at keys of the event, or none is
  its_rows : (e : MirrorKey × Mark) → filter passes (mark_rows base e) ≡ cond (is_eq (mirror_cmp (event_key id) e.0)) (mark_rows base e) []
  its_rows e =
      filter_alike passes (is_eq (mirror_cmp (event_key id) e.0)) (mark_rows base e)
      (each_by_mark base (λ k r. passes r ≡ is_eq (mirror_cmp (event_key id) k)) (λ other name. refl) (λ other event splits p. refl) e)

  -- no report is at a key of an event, and no roll-up
  none_beyond : (k : ViewKey) → 2 ≤ place_of k → is_key_of id k ≡ false
  none_beyond (key.Program other) beyond = absurd (omega (arith, beyond))
  none_beyond (key.Event other resource) beyond = absurd (omega (arith, beyond))
  none_beyond (key.Report n) beyond = refl
  none_beyond (key.Rollup other) beyond = refl

  no_reports : filter passes (then_reports base) ≡ []
  no_reports = filter_alike passes false (then_reports base) (All-weaker (λ r. place_of r.0 ≡ 2) (λ r. passes r ≡ false) (λ r is. none_beyond r.0 (omega (arith, is))) (then_reports base) (reports_are base))

  no_rollups : filter passes (then_rollups base) ≡ []
  no_rollups = filter_alike passes false (then_rollups base) (All-weaker (λ r. place_of r.0 ≡ 3) (λ r. passes r ≡ false) (λ r is. none_beyond r.0 (omega (arith, is))) (then_rollups base) (rollups_are base))

  -- so that only those of marks pass
  of_marks : filter passes (rows_shown base) ≡ filter passes (shown_first base)
  of_marks =
      filter-append passes (shown_first base ++ then_reports base) (then_rollups base) ∙ ap (λ rows. filter passes (shown_first base ++ then_reports base) ++ rows) no_rollups ∙ append-nil (filter passes (shown_first base ++ then_reports base))
      ∙ filter-append passes (shown_first base) (then_reports base) ∙ ap (λ rows. filter passes (shown_first base) ++ rows) no_reports ∙ append-nil (filter passes (shown_first base))

pub shown_is_of_view : ShownIsOfTheView
shown_is_of_view base id stands =
    ap (filter (λ r. is_key_of id r.0)) (view_made base stands) ∙ of_marks base id
    ∙ filter_flat mirror_exact (mark_rows base) (rows_known base) (λ k. refl) (λ e. refl) (λ r. is_key_of id r.0) (event_key id) (its_rows base id) base.mirror stands.upstream_keys
