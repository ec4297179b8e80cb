-- The rows that a mark makes in the view.
use Rattle.std.proofs.Common.{◌≡◌, ℕ, List, [], ◌++◌, map, Option, Some, None, refl}
use Rattle.std.specs.Prelude.{option_and_then}
use Rattle.std.specs.List.{enumerate_from}
use Rattle.adr_view.proofs.Common.{All, Contains, flat_map, cond_both, All-append, All-cons, All-contains, All-contains_itself, All-map, All-nil, Base}
use Rattle.adr_objects.specs.declared.kind.Kind.{Kind}
use Rattle.adr_objects.specs.declared.kind.Kind.TheVariants as kind
use Rattle.adr_objects.specs.declared.body.EventBody.{EventBody}
use Rattle.adr_objects.specs.declared.body.Body.{Body}
use Rattle.adr_objects.specs.declared.body.Body.TheVariants as body
use Rattle.adr_state.specs.declared.base.Mark.{Mark}
use Rattle.adr_state.specs.declared.base.Mark.TheVariants.{Live, Dead}
use Rattle.adr_state.specs.declared.keys.MirrorKey.{MirrorKey}
use Rattle.adr_state.specs.declared.keys.ViewKey.{ViewKey}
use Rattle.adr_state.specs.declared.keys.ViewKey.TheVariants as key
use Rattle.adr_objects.specs.declared.report.Rollup.{Rollup}
use Rattle.adr_state.specs.declared.participants.Participant.{Participant}
use Rattle.adr_state.specs.declared.portfolio.Report.{Report}
use Rattle.adr_state.specs.Participants.{participants}
use Rattle.adr_view.specs.declared.parts.SplitInterval.{SplitInterval}
use Rattle.adr_view.specs.declared.view.Content.{Content}
use Rattle.adr_view.specs.declared.view.Content.TheVariants as content
use Rattle.adr_view.specs.Views.{weights_of, split_interval, carries, event_row, rows_for, program_rows, event_rows, body_rows, mark_rows, report_row, rolled_up, event_of, rollup_rows, rows_shown, view}
use Rattle.adr_view.specs.Rollups.{rollup_of}
use Rattle.adr_view.proofs.KeyLemmas.{view_exact}
use Rattle.adr_view.proofs.ListLemmas.{all_flat}
use Rattle.adr_view.proofs.RowLemmas.{all_rows, each_there}

module _ (base : Base) where
  -- what holds of no rows, of a program's and of an event's holds of those of each mark
  pub by_mark : (P : MirrorKey → List (ViewKey × Content) → Type 0) → ((k : MirrorKey) → P k []) → ((id name : List ℕ) → P (record { kind = kind.Program; id = id }) (program_rows id name))
      → ((id : List ℕ) (event : EventBody) → P (record { kind = kind.Event; id = id }) (event_rows base id event)) → (e : MirrorKey × Mark) → P e.0 (mark_rows base e)
  by_mark P none program event (k, Dead) = none k
  by_mark P none program event (k, Live moment b) = by_body k.kind k.id b
    where
      by_body : (at : Kind) (id : List ℕ) (b : Body) → P (record { kind = at; id = id }) (body_rows base at id b)
      by_body kind.Program id (body.Program name) = program id name
      by_body kind.Program id (body.Event it) = none (record { kind = kind.Program; id = id })
      by_body kind.Program id (body.Opaque reason) = none (record { kind = kind.Program; id = id })
      by_body kind.Event id (body.Program name) = none (record { kind = kind.Event; id = id })
      by_body kind.Event id (body.Event it) = event id it
      by_body kind.Event id (body.Opaque reason) = none (record { kind = kind.Event; id = id })

  -- what holds of the row of a program and of each of an event holds of each row of each mark
  pub each_by_mark : (P : MirrorKey → ViewKey × Content → Type 0) → ((id name : List ℕ) → P (record { kind = kind.Program; id = id }) (key.Program id, content.Program name))
      → ((id : List ℕ) (event : EventBody) (splits : List SplitInterval) (p : ℕ × Participant) → P (record { kind = kind.Event; id = id }) (event_row id event splits p)) → (e : MirrorKey × Mark) → All (P e.0) (mark_rows base e)
  each_by_mark P program event =
      by_mark (λ k rows. All (P k) rows) (λ k. All-nil (P k)) (λ id name. let it : MirrorKey = record { kind = kind.Program; id = id } in All-cons (P it) (key.Program id, content.Program name) [] (program id name) (All-nil (P it))) (λ id shown.
      let it : MirrorKey = record { kind = kind.Event; id = id } in
      let ps : List Participant = participants base.portfolio id shown in
      let row : ℕ × Participant → ViewKey × Content = event_row id shown (map (split_interval (weights_of ps)) shown.intervals) in
      cond_both (carries shown) (rows_for id shown ps) [] (All (P it)) (λ some. All-map (P it) row (enumerate_from 0 ps) (each_there (λ p. P it (row p)) (enumerate_from 0 ps) (λ p there. event id shown (map (split_interval (weights_of ps)) shown.intervals) p))) (λ none. All-nil (P it)))

  -- each row of the view is one of those that are shown
  pub from_view : (r : ViewKey × Content) → Contains (view base) r → Contains (rows_shown base) r
  unfolding view
  from_view r there =
      let rows : List (ViewKey × Content) = rows_shown base in
      All-contains (Contains rows) (view base) r (all_rows view_exact (Contains rows) [] rows (All-nil (Contains rows)) (All-contains_itself rows)) there

  -- what holds of each row of each mark, of each report and of each roll-up holds of each row of the view
  pub each_shown : (P : ViewKey × Content → Type 0) → ((e : MirrorKey × Mark) → Contains base.mirror e → All P (mark_rows base e)) → ((r : ℕ × Report) → Contains base.portfolio.reports r → P (report_row r))
      → ((e : MirrorKey × Mark) → Contains base.mirror e → All P (rollup_rows base e)) → All P (rows_shown base)
  each_shown P marks reports rollups =
      All-append P (flat_map (mark_rows base) base.mirror ++ map report_row base.portfolio.reports) (flat_map (rollup_rows base) base.mirror)
      (All-append P (flat_map (mark_rows base) base.mirror) (map report_row base.portfolio.reports) (all_flat (mark_rows base) P base.mirror (each_there (λ e. All P (mark_rows base e)) base.mirror marks))
      (All-map P report_row base.portfolio.reports (each_there (λ r. P (report_row r)) base.portfolio.reports reports)))
      (all_flat (rollup_rows base) P base.mirror (each_there (λ e. All P (rollup_rows base e)) base.mirror rollups))

  -- a roll-up of a key is one of an event, and says what is rolled up there
  pub each_rollup : (P : ViewKey × Content → Type 0) (e : MirrorKey × Mark) → ((event : EventBody) (rollup : Rollup) → event_of e.0.kind e.1 ≡ Some event → rollup_of base.portfolio e.0.id event ≡ Some rollup → P (key.Rollup e.0.id, content.Rollup rollup)) → All P (rollup_rows base e)
  each_rollup P e each = by (event_of e.0.kind e.1) refl
    where
      by_rollup : (event : EventBody) → event_of e.0.kind e.1 ≡ Some event → (o : Option Rollup) → rollup_of base.portfolio e.0.id event ≡ o → All P (rolled_up e.0.id o)
      by_rollup event is None made = All-nil P
      by_rollup event is (Some rollup) made = All-cons P (key.Rollup e.0.id, content.Rollup rollup) [] (each event rollup is made) (All-nil P)

      by : (o : Option EventBody) → event_of e.0.kind e.1 ≡ o → All P (rolled_up e.0.id (option_and_then (rollup_of base.portfolio e.0.id) o))
      by None is = All-nil P
      by (Some event) is = by_rollup event is (rollup_of base.portfolio e.0.id event) refl
