-- The sources of what is answered have all that an edit touches.
use Rattle.std.proofs.Common.{inl, inr, ℕ, Bool, true, false, cond, List, [], ◌++◌, map, arith, sym, subst}
use Rattle.std.proofs.lemmas.List.Elements.{Contains-append_cases}
use Rattle.adr_state.specs.declared.keys.MirrorKey.{MirrorKey}
use Rattle.adr_view.specs.Rollups.{event_key}
use Rattle.adr_refresh.specs.Sources.{Source, Upstream, Reported, RolledUp}
use Rattle.adr_refresh.specs.Touched.{upstream_event, is_shared, shares_touched, events_touched, reports_touched}
use Rattle.adr_refresh.proofs.Common.{Contains, Contains-append_left, Contains-append_right}
use Rattle.adr_view.proofs.ListLemmas.{from_map, in_map}
use Rattle.adr_touched.specs.Answers.{HasEach, HasEvents}
use Rattle.adr_touched.specs.Laws.{sources_of, AnswersSuffice}

module _ (keys : List MirrorKey) (numbers : List ℕ) where
  abbrev pub front : List Source
  front = map Upstream keys ++ map Reported numbers

  abbrev pub rolled : List Source
  rolled = map (λ (k : MirrorKey). RolledUp k.id) keys

  -- an event among the keys
  event_has : (ids : List (List ℕ)) → HasEvents keys ids → (s : Source) → Contains (map upstream_event ids) s → Contains (sources_of keys numbers) s
  event_has ids has s there =
      let from = from_map upstream_event ids s there in
      subst (λ (t : Source). Contains (sources_of keys numbers) t) (sym from.2)
      (Contains-append_left front rolled (upstream_event from.0) (Contains-append_left (map Upstream keys) (map Reported numbers) (upstream_event from.0) (in_map Upstream keys (event_key from.0) (has from.0 from.1))))

  shared_has : (shared : Bool) (ids : List (List ℕ)) → HasEvents keys ids → (s : Source) → Contains (cond shared (map upstream_event ids) []) s → Contains (sources_of keys numbers) s
  shared_has true ids has s there = event_has ids has s there
  shared_has false ids has s there = absurd (omega (arith, there.1))

  -- a report among the numbers
  report_has : (ns : List ℕ) → HasEach numbers ns → (s : Source) → Contains (map Reported ns) s → Contains (sources_of keys numbers) s
  report_has ns has s there =
      let from = from_map Reported ns s there in
      subst (λ (t : Source). Contains (sources_of keys numbers) t) (sym from.2)
      (Contains-append_left front rolled (Reported from.0) (Contains-append_right (map Upstream keys) (map Reported numbers) (Reported from.0) (in_map Reported numbers from.0 (has from.0 from.1))))

  -- the roll-up of an event among the keys
  rollup_has : (ids : List (List ℕ)) → HasEvents keys ids → (s : Source) → Contains (map RolledUp ids) s → Contains (sources_of keys numbers) s
  rollup_has ids has s there =
      let from = from_map RolledUp ids s there in
      subst (λ (t : Source). Contains (sources_of keys numbers) t) (sym from.2) (Contains-append_right front rolled (RolledUp from.0) (in_map (λ (k : MirrorKey). RolledUp k.id) keys (event_key from.0) (has from.0 from.1)))

pub suffice : AnswersSuffice
suffice c base keys numbers events reports s there =
    elim (Contains-append_cases (shares_touched c base ++ map Reported (reports_touched c base)) (map RolledUp (events_touched c base)) s there) [
      | inl first ↦ elim (Contains-append_cases (shares_touched c base) (map Reported (reports_touched c base)) s first) [
        | inl event ↦ shared_has keys numbers (is_shared c) (events_touched c base) events s event
        | inr report ↦ report_has keys numbers (reports_touched c base) reports s report
      ]
      | inr rollup ↦ rollup_has keys numbers (events_touched c base) events s rollup
    ]
