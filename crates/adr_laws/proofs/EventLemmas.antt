-- What the view has of an event: each that is enrolled has its part at its key, and nobody else has one.
use Rattle.std.proofs.Common.{◌≡◌, ℕ, ℤ, Bool, true, false, cond, List, [], ◌++◌, length, map, Option, Some, None, refl, sym, ap, subst, ◌∙◌, arith, ◌<◌}
use Rattle.std.specs.Prelude.{IsSome, is_some, option_map, option_and_then, slice_get}
use Rattle.std.specs.List.{enumerate_from}
use Rattle.std.proofs.lemmas.List.Elements.{Contains-append_left}
use Rattle.std.proofs.lemmas.List.Recursion.{or_at}
use Rattle.std.proofs.lemmas.Option.{same_Some, slice_get-map}
use Rattle.adr_laws.proofs.Common.{Contains, list_any, keys_of, eq_by_cmp_equiv, false≢true, All-contains, Contains-from_lookup, IsDistinct-from_sorted, tells_apart, Base, empty, step_at, at, mirror_cmp, view_cmp, lookup-from_Contains, map-map, length-map, get_or_from_slice_get, slice_get_within}
use Rattle.adr_split.specs.FairSplit.{IsFairSplit}
use Rattle.adr_split.specs.Laws.{AreWeights}
use Rattle.adr_split.specs.Parts.{fair_split}
use Rattle.adr_split.proofs.FairLemmas.{fair_split_is_fair}
use Rattle.adr_objects.specs.declared.body.Body.TheVariants as body
use Rattle.adr_objects.specs.declared.body.EventBody.{EventBody}
use Rattle.adr_objects.specs.declared.interval.Interval.{Interval}
use Rattle.adr_state.specs.declared.base.Mark.{Mark}
use Rattle.adr_state.specs.declared.base.Mark.TheVariants.{Live, Dead}
use Rattle.adr_state.specs.declared.keys.MirrorKey.{MirrorKey}
use Rattle.adr_state.specs.declared.keys.ViewKey.{ViewKey}
use Rattle.adr_state.specs.declared.keys.ViewKey.TheVariants as key
use Rattle.adr_state.specs.declared.participants.Participant.{Participant}
use Rattle.adr_state.specs.Participants.{participants}
use Rattle.adr_state.proofs.LawLemmas.{key_order}
use Rattle.adr_view.specs.declared.parts.SplitInterval.{SplitInterval}
use Rattle.adr_view.specs.declared.view.Content.{Content}
use Rattle.adr_view.specs.Rollups.{event_key}
use Rattle.adr_view.specs.Views.{weights_of, split_interval, interval_at, event_row, rows_for, carries, event_rows, mark_rows, rows_shown, report_row, view}
use Rattle.adr_laws.specs.Enrolled.{enrolled, enrolled_numbers, enrolled_weights}
use Rattle.adr_laws.specs.ShownParts.{part_in, part_shown, AreFairParts, IsLive}
use Rattle.adr_view.specs.Laws.{StandsInOrder}
use Rattle.adr_laws.specs.Laws.{IsWhole, OnlyLiveEventsAreShown, ShownPartsSumUp, ShownPartsSumUpAfterRuns}
use Rattle.adr_laws.specs.Standing.{state_of}
use Rattle.adr_laws.proofs.EnrolledLemmas.{enrolled_positive, numbers_are, weights_are}
use Rattle.adr_view.proofs.KeyLemmas.{mirror_exact, view_exact, IsMadeOf}
use Rattle.adr_view.proofs.RowLemmas.{each_there}
use Rattle.adr_view.proofs.ListLemmas.{in_map, from_map, in_flat, placed, map_by_place}
use Rattle.adr_laws.proofs.PortfolioLemmas.{portfolio_whole, rows_in_order}
use Rattle.adr_view.proofs.ShownLemmas.{view_total, shown_in_order, shown_first, then_reports, then_rollups, keys_shown, its_key, view_made}
use Rattle.adr_view.proofs.ViewLemmas.{each_rollup, each_shown, from_view}

-- ---- the rows of an event

-- the part that one of them has
part_at : (id : List ℕ) (event : EventBody) (weights : List ℕ) (place : ℕ) (i : Interval) (e : ℕ × Participant) → slice_get event.intervals place ≡ Some i
    → part_in place (event_row id event (map (split_interval weights) event.intervals) e).1 ≡ option_and_then (λ parts. slice_get parts e.0) (option_map (λ v. fair_split v weights) i.setpoint)
part_at id event weights place i e is =
    ap (option_and_then (λ shown. shown.part))
    (slice_get-map (interval_at e.0) (map (split_interval weights) event.intervals) place
    ∙ ap (option_map (interval_at e.0)) (slice_get-map (split_interval weights) event.intervals place ∙ ap (option_map (split_interval weights)) is))

carries_one : (event : EventBody) (place : ℕ) (i : Interval) (v : ℤ) → slice_get event.intervals place ≡ Some i → i.setpoint ≡ Some v → carries event ≡ true
carries_one event place i v is carried =
    let test : Interval → Bool = λ i. is_some i.setpoint in
    or_at (list_any test) test refl (λ x xs. refl) event.intervals place i (slice_get_within event.intervals place i is) (ap test (get_or_from_slice_get event.intervals place i i is) ∙ ap is_some carried)

from_cond : {A : Type 0} (b : Bool) (xs : List A) (x : A) → Contains (cond b xs []) x → Contains xs x
from_cond true xs x there = there
from_cond false xs x there = absurd (omega (arith, there.1))

-- ---- the view as it is made

-- a row at the key of an event is one of a mark, and none of a report or a roll-up
of_a_mark : (base : Base) (id : List ℕ) (n : ℕ) (c : Content) → Contains (rows_shown base) (key.Event id n, c) → (e : MirrorKey × Mark) × Contains base.mirror e × Contains (mark_rows base e) (key.Event id n, c)
of_a_mark base id n c there =
    All-contains IsOfMark (rows_shown base) (key.Event id n, c)
    (each_shown base IsOfMark (λ e known. each_there IsOfMark (mark_rows base e) (λ r among is. (e, known, subst (Contains (mark_rows base e)) is among))) (λ r known is. absurd (let no : (report_row r).0 ≡ key.Event id n = ap (λ (r : ViewKey × Content). r.0) is in cc))
    (λ e known. each_rollup base IsOfMark e (λ event rollup one made is. absurd (let no : key.Rollup e.0.id ≡ key.Event id n = ap (λ (r : ViewKey × Content). r.0) is in cc)))) there refl
  where
    IsOfMark : ViewKey × Content → Type 0
    IsOfMark r = r ≡ (key.Event id n, c) → (e : MirrorKey × Mark) × Contains base.mirror e × Contains (mark_rows base e) (key.Event id n, c)

-- what stands at the key of an event is a row of the mark that its upstream key has
shown_of_mark : (base : Base) → StandsInOrder base → (id : List ℕ) (n : ℕ) (c : Content) → at view_cmp (key.Event id n) (view base) ≡ Some c
    → (mark : Mark) × (at mirror_cmp (event_key id) base.mirror ≡ Some mark) × Contains (mark_rows base (event_key id, mark)) (key.Event id n, c)
shown_of_mark base stands id n c found =
    let e = of_a_mark base id n c (from_view base (key.Event id n, c) (Contains-from_lookup (tells_apart view_exact) (key.Event id n) c (view base) found)) in
    let its : e.0.0 ≡ event_key id = All-contains (λ r. IsMadeOf r.0 e.0.0) (mark_rows base e.0) (key.Event id n, c) (its_key base e.0) e.2 in
    let known : at mirror_cmp e.0.0 base.mirror ≡ Some e.0.1 = lookup-from_Contains (eq_by_cmp_equiv key_order) e.0.0 e.0.1 base.mirror (IsDistinct-from_sorted mirror_cmp (keys_of base.mirror) stands.upstream_keys) e.1 in
    (e.0.1, ap (λ k. at mirror_cmp k base.mirror) (sym its) ∙ known, subst (λ k. Contains (mark_rows base (k, e.0.1)) (key.Event id n, c)) its e.2)

-- which is an event's
live_mark : (base : Base) (id : List ℕ) (r : ViewKey × Content) (mark : Mark) → Contains (mark_rows base (event_key id, mark)) r → (event : EventBody) × (moment : ℕ) × (mark ≡ Live moment (body.Event event))
live_mark base id r Dead there = absurd (omega (arith, there.1))
live_mark base id r (Live moment (body.Program name)) there = absurd (omega (arith, there.1))
live_mark base id r (Live moment (body.Event event)) there = (event, moment, refl)
live_mark base id r (Live moment (body.Opaque reason)) there = absurd (omega (arith, there.1))

pub only_live_shown : OnlyLiveEventsAreShown
only_live_shown base id n stands = by (at view_cmp (key.Event id n) (view base)) refl
  where
    by : (shown : Option Content) → at view_cmp (key.Event id n) (view base) ≡ shown → IsSome shown → (event : EventBody) × IsLive base id event
    by None found some = absurd (false≢true some)
    by (Some c) found some =
        let m = shown_of_mark base stands id n c found in
        let live = live_mark base id (key.Event id n, c) m.0 m.2 in
        (live.0, (live.1, m.1 ∙ ap (λ mark. Some mark) live.2))

module _ (base : Base) (whole : IsWhole base) (stands : StandsInOrder base) where
  -- ---- the rows of a live event in it

  module _ (id : List ℕ) (event : EventBody) (live : IsLive base id event) where
    abbrev ps : List Participant
    ps = participants base.portfolio id event

    abbrev splits : List SplitInterval
    splits = map (split_interval (weights_of ps)) event.intervals

    -- all of them
    there_shown : (r : ViewKey × Content) → Contains (event_rows base id event) r → Contains (view base) r
    there_shown r there =
        let mark : Mark = Live live.0 (body.Event event) in
        let first : Contains (shown_first base) r = in_flat (mark_rows base) base.mirror (event_key id, mark) r (Contains-from_lookup (tells_apart mirror_exact) (event_key id) mark base.mirror live.1) there in
        subst (λ rows. Contains rows r) (sym (view_made base stands)) (Contains-append_left (shown_first base ++ then_reports base) (then_rollups base) r (Contains-append_left (shown_first base) (then_reports base) r first))

    -- and no others
    shown_there : (n : ℕ) (c : Content) → at view_cmp (key.Event id n) (view base) ≡ Some c → Contains (rows_for id event ps) (key.Event id n, c)
    shown_there n c found =
        let m = shown_of_mark base stands id n c found in
        let same : m.0 ≡ Live live.0 (body.Event event) = same_Some m.0 (Live live.0 (body.Event event)) (sym m.1 ∙ live.1) in
        from_cond (carries event) (rows_for id event ps) (key.Event id n, c) (subst (λ mark. Contains (mark_rows base (event_key id, mark)) (key.Event id n, c)) same m.2)

    -- what a participant is shown at its key
    shown_at : carries event ≡ true → (k : ℕ) (p : Participant) → slice_get ps k ≡ Some p → at view_cmp (key.Event id p.resource) (view base) ≡ Some (event_row id event splits (k, p)).1
    shown_at some k p is =
        let r : ViewKey × Content = event_row id event splits (k, p) in
        lookup-from_Contains (eq_by_cmp_equiv view_total) r.0 r.1 (view base) (IsDistinct-from_sorted view_cmp (keys_of (view base)) (shown_in_order base))
        (there_shown r (subst (λ b. Contains (cond b (rows_for id event ps) []) r) (sym some) (in_map (event_row id event splits) (enumerate_from 0 ps) (k, p) (placed ps k p is))))

    -- ---- the law

    are_weights : 0 < length (enrolled base.portfolio id event) → AreWeights (enrolled_weights base.portfolio id event)
    are_weights some = record { some = omega (arith, some, length-map (enrolled base.portfolio id event) (λ e. e.1)); positive = enrolled_positive base id event whole }

    sum_up : (place : ℕ) (i : Interval) (v : ℤ) → slice_get event.intervals place ≡ Some i → i.setpoint ≡ Some v → 0 < length (enrolled base.portfolio id event)
        → AreFairParts v (enrolled_weights base.portfolio id event) (map (part_shown (view base) id place) (enrolled_numbers base.portfolio id event))
    sum_up place i v is carried some =
        let parts : List ℤ = fair_split v (weights_of ps) in
        let fair : IsFairSplit v (weights_of ps) parts = fair_split_is_fair v (weights_of ps) (subst AreWeights (sym (weights_are base id event whole)) (are_weights some)) in
        let each : (k : ℕ) (p : Participant) → slice_get ps k ≡ Some p → part_shown (view base) id place p.resource ≡ slice_get parts k =
        λ k p there. ap (option_and_then (part_in place)) (shown_at (carries_one event place i v is carried) k p there) ∙ part_at id event (weights_of ps) place i (k, p) is ∙ ap (λ s. option_and_then (λ parts. slice_get parts k) (option_map (λ v. fair_split v (weights_of ps)) s)) carried in
        record {
          parts = parts;
          each_is_shown = ap (map (part_shown (view base) id place)) (sym (numbers_are base id event whole)) ∙ map-map (part_shown (view base) id place) (λ (p : Participant). p.resource) ps
              ∙ map_by_place (λ p. part_shown (view base) id place p.resource) ps parts (fair.one_part_each ∙ length-map ps (λ p. p.weight)) each;
          they_sum_up = fair.sums_up;
          they_are_fair = subst (λ weights. IsFairSplit v weights parts) (weights_are base id event whole) fair;
        }

    no_part : (place : ℕ) (i : Interval) (n : ℕ) → slice_get event.intervals place ≡ Some i → i.setpoint ≡ None → part_shown (view base) id place n ≡ None
    no_part place i n is none = by (at view_cmp (key.Event id n) (view base)) refl
      where
        by : (shown : Option Content) → at view_cmp (key.Event id n) (view base) ≡ shown → option_and_then (part_in place) shown ≡ None
        by None found = refl
        by (Some c) found =
            let e = from_map (event_row id event splits) (enumerate_from 0 ps) (key.Event id n, c) (shown_there n c found) in
            ap (λ r. part_in place r.1) e.2 ∙ part_at id event (weights_of ps) place i e.0 is ∙ ap (λ s. option_and_then (λ parts. slice_get parts e.0.0) (option_map (λ v. fair_split v (weights_of ps)) s)) none

    nobody_else : (n : ℕ) → IsSome (at view_cmp (key.Event id n) (view base)) → Contains (enrolled_numbers base.portfolio id event) n
    nobody_else n = by (at view_cmp (key.Event id n) (view base)) refl
      where
        by : (shown : Option Content) → at view_cmp (key.Event id n) (view base) ≡ shown → IsSome shown → Contains (enrolled_numbers base.portfolio id event) n
        by None found some = absurd (false≢true some)
        by (Some c) found some =
            let keys : Contains (map (λ k. key.Event id k) (map (λ p. p.resource) ps)) (key.Event id n) =
            subst (λ ks. Contains ks (key.Event id n)) (keys_shown id event splits 0 ps) (in_map (λ r. r.0) (rows_for id event ps) (key.Event id n, c) (shown_there n c found)) in
            let m = from_map (λ k. key.Event id k) (map (λ p. p.resource) ps) (key.Event id n) keys in
            let same : m.0 ≡ n = let is : key.Event id n ≡ key.Event id m.0 = m.2 in cc in
            subst (λ ns. Contains ns n) (numbers_are base id event whole) (subst (Contains (map (λ p. p.resource) ps)) same m.1)

pub parts_sum_up : ShownPartsSumUp
parts_sum_up base id event whole stands live = record {
  parts_sum_up = sum_up base whole stands id event live;
  no_part_without_setpoint = no_part base whole stands id event live;
  nobody_else_is_shown_it = nobody_else base whole stands id event live;
}

pub parts_sum_up_after_runs : ShownPartsSumUpAfterRuns
parts_sum_up_after_runs settings cs id event live = parts_sum_up (state_of (step_at settings) empty cs).base id event (portfolio_whole settings cs) (rows_in_order settings cs) live
