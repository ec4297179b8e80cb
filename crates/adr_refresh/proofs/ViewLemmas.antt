-- What the view has at a key is what is shown there of its source.
use Rattle.std.proofs.Common.{◌≡◌, ℕ, Bool, true, false, cond, List, [], ◌∷◌, ◌++◌, filter, Option, Some, None, refl, sym, ap, ◌∙◌}
use Rattle.std.specs.Prelude.{option_map}
use Rattle.adr_objects.specs.declared.kind.Kind.TheVariants as kind
use Rattle.adr_objects.specs.declared.report.Rollup.{Rollup}
use Rattle.adr_state.specs.declared.base.Mark.{Mark}
use Rattle.adr_state.specs.declared.keys.MirrorKey.{MirrorKey}
use Rattle.adr_state.specs.declared.keys.ViewKey.{ViewKey}
use Rattle.adr_state.specs.declared.keys.ViewKey.TheVariants as key
use Rattle.adr_state.specs.declared.portfolio.Report.{Report}
use Rattle.adr_view.specs.declared.view.Content.{Content}
use Rattle.adr_view.specs.declared.view.Content.TheVariants as content
use Rattle.adr_view.specs.Laws.{StandsInOrder, is_key_of}
use Rattle.adr_view.specs.Rollups.{rollup_at}
use Rattle.adr_view.specs.Views.{mark_rows, rows_known, report_row, rolled_up, rollup_rows, rows_shown, view}
use Rattle.adr_view.proofs.ListLemmas.{all_flat, filter_alike, filter_flat}
use Rattle.adr_view.proofs.OtherLemmas.{others_shown}
use Rattle.adr_view.proofs.ShownLemmas.{view_made, shown_first, then_reports, then_rollups, shown_is_of_view}
use Rattle.adr_view.proofs.ViewLemmas.{each_by_mark, each_rollup}
use Rattle.adr_refresh.specs.Sources.{reported_rows}
use Rattle.adr_refresh.specs.Laws.{ViewIsOfSources}
use Rattle.adr_refresh.proofs.Common.{All, All-map, Base, append-nil, at, each_there, equal_from_is, filter-append, id_cmp, is_at, is_eq, lookup-filter-keys, mirror_cmp, mirror_exact, nat_cmp, nat_list_cmp_total, view_cmp, view_exact, view_total}
use Rattle.adr_refresh.proofs.MapLemmas.{tied}

-- a filter by keys leaves what stands at a key that passes
at_passing : (q : ViewKey) (passes : ViewKey → Bool) (rows : List (ViewKey × Content)) → passes q ≡ true → at view_cmp q rows ≡ at view_cmp q (filter (λ r. passes r.0) rows)
at_passing q passes rows passed = sym (lookup-filter-keys (is_at (view_cmp q)) passes true (λ k is. ap passes (sym (view_exact q k (equal_from_is _ is))) ∙ passed) rows)

itself : (id : List ℕ) → is_eq (id_cmp id id) ≡ true
itself id = tied nat_list_cmp_total id

-- ---- programs, as events are

abbrev is_program : List ℕ → ViewKey → Bool
is_program id (key.Program other) = is_eq (id_cmp id other)
is_program id _ = false

module _ (base : Base) (id : List ℕ) where
  abbrev passes : ViewKey × Content → Bool
  passes r = is_program id r.0

  abbrev program_key : MirrorKey
  program_key = record { kind = kind.Program; id = id }

  its_rows : (e : MirrorKey × Mark) → filter passes (mark_rows base e) ≡ cond (is_eq (mirror_cmp program_key e.0)) (mark_rows base e) []
  its_rows e =
      filter_alike passes (is_eq (mirror_cmp program_key e.0)) (mark_rows base e)
      (each_by_mark base (λ k r. passes r ≡ is_eq (mirror_cmp program_key k)) (λ other name. refl) (λ other event splits p. refl) e)

  no_reports : filter passes (then_reports base) ≡ []
  no_reports = filter_alike passes false (then_reports base) (All-map (λ r. passes r ≡ false) report_row base.portfolio.reports (each_there (λ r. passes (report_row r) ≡ false) base.portfolio.reports (λ r there. refl)))

  no_rollups : filter passes (then_rollups base) ≡ []
  no_rollups = filter_alike passes false (then_rollups base)
      (all_flat (rollup_rows base) (λ r. passes r ≡ false) base.mirror (each_there (λ e. All (λ r. passes r ≡ false) (rollup_rows base e)) base.mirror (λ e there. each_rollup base (λ r. passes r ≡ false) e (λ event rollup is made. refl))))

  of_marks : filter passes (rows_shown base) ≡ filter passes (shown_first base)
  of_marks =
      filter-append passes (shown_first base ++ then_reports base) (then_rollups base) ∙ ap (λ rows. filter passes (shown_first base ++ then_reports base) ++ rows) no_rollups ∙ append-nil (filter passes (shown_first base ++ then_reports base))
      ∙ filter-append passes (shown_first base) (then_reports base) ∙ ap (λ rows. filter passes (shown_first base) ++ rows) no_reports ∙ append-nil (filter passes (shown_first base))

  program_of_view : StandsInOrder base → filter passes (view base) ≡ rows_known base program_key (at mirror_cmp program_key base.mirror)
  program_of_view stands =
      ap (filter passes) (view_made base stands) ∙ of_marks
      ∙ filter_flat mirror_exact (mark_rows base) (rows_known base) (λ k. refl) (λ e. refl) passes program_key its_rows base.mirror stands.upstream_keys

-- ---- by kinds of key

alone : (q : ViewKey) (c : Content) → at view_cmp q ((q, c) ∷ []) ≡ Some c
alone q c = rw (tied view_total q) refl

reported_at : (n : ℕ) (o : Option Report) → option_map (λ r. content.Report r.body) o ≡ at view_cmp (key.Report n) (reported_rows n o)
reported_at n None = refl
reported_at n (Some report) = sym (alone (key.Report n) (content.Report report.body))

rolled_at : (id : List ℕ) (o : Option Rollup) → option_map (λ rollup. content.Rollup rollup) o ≡ at view_cmp (key.Rollup id) (rolled_up id o)
rolled_at id None = refl
rolled_at id (Some rollup) = sym (alone (key.Rollup id) (content.Rollup rollup))

pub view_of_sources : ViewIsOfSources
view_of_sources base stands (key.Program id) = at_passing (key.Program id) (is_program id) (view base) (itself id) ∙ ap (at view_cmp (key.Program id)) (program_of_view base id stands)
view_of_sources base stands (key.Event id resource) = at_passing (key.Event id resource) (is_key_of id) (view base) (itself id) ∙ ap (at view_cmp (key.Event id resource)) (shown_is_of_view base id stands)
view_of_sources base stands (key.Report n) = (others_shown base stands).reports n ∙ reported_at n (at nat_cmp n base.portfolio.reports)
view_of_sources base stands (key.Rollup id) = (others_shown base stands).rollups id ∙ rolled_at id (rollup_at base.mirror base.portfolio id)
