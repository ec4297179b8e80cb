-- What is shown of a source stays, by those who take part and what they report.
use Rattle.std.proofs.Common.{◌≡◌, ℕ, cond, List, [], ◌++◌, map, Option, Some, None, refl, ap, ◌∙◌}
use Rattle.std.specs.Prelude.{option_and_then}
use Rattle.adr_objects.specs.declared.body.Body.TheVariants as body
use Rattle.adr_objects.specs.declared.body.EventBody.{EventBody}
use Rattle.adr_objects.specs.declared.kind.Kind.{Kind}
use Rattle.adr_objects.specs.declared.kind.Kind.TheVariants as kind
use Rattle.adr_state.specs.declared.base.Mark.{Mark}
use Rattle.adr_state.specs.declared.base.Mark.TheVariants.{Live, Dead}
use Rattle.adr_state.specs.declared.participants.Participant.{Participant}
use Rattle.adr_state.specs.declared.portfolio.Portfolio.{Portfolio}
use Rattle.adr_state.specs.Participants.{participants}
use Rattle.adr_view.specs.declared.rollup.Reporter.{Reporter}
use Rattle.adr_view.specs.Rollups.{event_key, event_body, reporters, reports_of, rollup_for, rollup_of}
use Rattle.adr_view.specs.Views.{carries, rows_for, rows_known, rolled_up}
use Rattle.adr_refresh.specs.Sources.{Source, Upstream, Reported, RolledUp, reported_rows, rows_of}
use Rattle.adr_refresh.specs.Touched.{upstream_event}
use Rattle.adr_refresh.proofs.Common.{Base, Contains, Contains-append_left, Contains-append_right, at, in_map, mirror_cmp, nat_cmp}

-- those who take part stay, and what they report
pub record StaysOf (p q : Portfolio) (id : List ℕ) (event : EventBody) : Type 0 where
  pub part : participants p id event ≡ participants q id event
  pub reports : reporters (reports_of id p.reports) (participants p id event) ≡ reporters (reports_of id q.reports) (participants p id event)

-- ---- by what is known of an upstream key

module _ (base after : Base) where
  programs_stay : (id : List ℕ) (known : Option Mark) → rows_known base (record { kind = kind.Program; id = id }) known ≡ rows_known after (record { kind = kind.Program; id = id }) known
  programs_stay id None = refl
  programs_stay id (Some Dead) = refl
  programs_stay id (Some (Live moment (body.Program name))) = refl
  programs_stay id (Some (Live moment (body.Event it))) = refl
  programs_stay id (Some (Live moment (body.Opaque reason))) = refl

  events_stay : (id : List ℕ) (known : Option Mark) → ((event : EventBody) → event_body known ≡ Some event → participants base.portfolio id event ≡ participants after.portfolio id event) → rows_known base (event_key id) known ≡ rows_known after (event_key id) known
  events_stay id None same = refl
  events_stay id (Some Dead) same = refl
  events_stay id (Some (Live moment (body.Program name))) same = refl
  events_stay id (Some (Live moment (body.Event it))) same = ap (λ (ps : List Participant). cond (carries it) (rows_for id it ps) []) (same it refl)
  events_stay id (Some (Live moment (body.Opaque reason))) same = refl

  -- where those who take part in an event stay
  pub known_stay : (which : Kind) (id : List ℕ) (known : Option Mark) → (which ≡ kind.Event → (event : EventBody) → event_body known ≡ Some event → participants base.portfolio id event ≡ participants after.portfolio id event)
      → rows_known base (record { kind = which; id = id }) known ≡ rows_known after (record { kind = which; id = id }) known
  known_stay kind.Program id known same = programs_stay id known
  known_stay kind.Event id known same = events_stay id known (same refl)

rollups_stay : (p q : Portfolio) (id : List ℕ) (o : Option EventBody) → ((event : EventBody) → o ≡ Some event → StaysOf p q id event) → rolled_up id (option_and_then (rollup_of p id) o) ≡ rolled_up id (option_and_then (rollup_of q id) o)
rollups_stay p q id None stays = refl
rollups_stay p q id (Some it) stays = ap (λ (rs : List Reporter). rolled_up id (rollup_for it rs)) ((stays it refl).reports ∙ ap (reporters (reports_of id q.reports)) (stays it refl).part)

-- ---- a source that is not touched

module _ (base : Base) (q : Portfolio) where
  abbrev after : Base
  after = record base { portfolio = q }

  abbrev pub PartsStay : List ℕ → Type 0
  PartsStay id = (event : EventBody) → event_body (at mirror_cmp (event_key id) base.mirror) ≡ Some event → participants base.portfolio id event ≡ participants q id event

  abbrev pub Stays : List ℕ → Type 0
  Stays id = (event : EventBody) → event_body (at mirror_cmp (event_key id) base.mirror) ≡ Some event → StaysOf base.portfolio q id event

  abbrev pub ReportStays : ℕ → Type 0
  ReportStays n = at nat_cmp n base.portfolio.reports ≡ at nat_cmp n q.reports

  module _ (first : List Source) (ns : List ℕ) (ids : List (List ℕ)) where
    abbrev all_touched : List Source
    all_touched = first ++ map Reported ns ++ map RolledUp ids

    among_first : (s : Source) → Contains first s → Contains all_touched s
    among_first s there = Contains-append_left (first ++ map Reported ns) (map RolledUp ids) s (Contains-append_left first (map Reported ns) s there)

    among_reports : (n : ℕ) → Contains ns n → Contains all_touched (Reported n)
    among_reports n there = Contains-append_left (first ++ map Reported ns) (map RolledUp ids) (Reported n) (Contains-append_right first (map Reported ns) (Reported n) (in_map Reported ns n there))

    among_rollups : (id : List ℕ) → Contains ids id → Contains all_touched (RolledUp id)
    among_rollups id there = Contains-append_right (first ++ map Reported ns) (map RolledUp ids) (RolledUp id) (in_map RolledUp ids id there)

    pub sources_stay : ((id : List ℕ) → (Contains first (upstream_event id) → ⊥) → PartsStay id) → ((n : ℕ) → (Contains ns n → ⊥) → ReportStays n) → ((id : List ℕ) → (Contains ids id → ⊥) → Stays id)
        → (s : Source) → (Contains all_touched s → ⊥) → rows_of base s ≡ rows_of after s
    sources_stay parts reports events (Upstream k) free = by k.kind k.id free
      where
        by : (which : Kind) (id : List ℕ) → (Contains all_touched (Upstream (record { kind = which; id = id })) → ⊥) → rows_of base (Upstream (record { kind = which; id = id })) ≡ rows_of after (Upstream (record { kind = which; id = id }))
        by kind.Program id free = programs_stay base after id (at mirror_cmp (record { kind = kind.Program; id = id }) base.mirror)
        by kind.Event id free = events_stay base after id (at mirror_cmp (event_key id) base.mirror) (parts id (λ there. free (among_first (upstream_event id) there)))
    sources_stay parts reports events (Reported n) free = ap (reported_rows n) (reports n (λ there. free (among_reports n there)))
    sources_stay parts reports events (RolledUp id) free = rollups_stay base.portfolio q id (event_body (at mirror_cmp (event_key id) base.mirror)) (events id (λ there. free (among_rollups id there)))

  -- where the events that are rolled up again are those in which others may take part
  pub shared_stay : (ns : List ℕ) (ids : List (List ℕ)) → ((n : ℕ) → (Contains ns n → ⊥) → ReportStays n) → ((id : List ℕ) → (Contains ids id → ⊥) → Stays id)
      → (s : Source) → (Contains (map upstream_event ids ++ map Reported ns ++ map RolledUp ids) s → ⊥) → rows_of base s ≡ rows_of after s
  shared_stay ns ids reports events = sources_stay (map upstream_event ids) ns ids (λ id free event is. (events id (λ there. free (in_map upstream_event ids id there)) event is).part) reports events
