-- The programs of the view are those that are live in the mirror.
use Rattle.std.proofs.Common.{◌≡◌, ℕ, Bool, true, false, cond, List, [], ◌∷◌, ◌++◌, filter, Option, Some, None, refl, ap, ap₂, ◌∙◌}
use Rattle.std.specs.Prelude.{◌&&◌, option_map}
use Rattle.std.specs.List.{cons_option, filter_map, flat_map}
use Rattle.std.specs.Option.{option_to_list}
use Rattle.adr_objects.specs.declared.body.Body.TheVariants as body
use Rattle.adr_objects.specs.declared.kind.Kind.{Kind}
use Rattle.adr_objects.specs.declared.kind.Kind.TheVariants as kind
use Rattle.adr_state.specs.declared.base.Base.{Base}
use Rattle.adr_state.specs.declared.base.Mark.{Mark}
use Rattle.adr_state.specs.declared.base.Mark.TheVariants.{Live, Dead}
use Rattle.adr_state.specs.declared.keys.MirrorKey.{MirrorKey}
use Rattle.adr_state.specs.declared.keys.ViewKey.{ViewKey}
use Rattle.adr_state.specs.declared.keys.ViewKey.TheVariants as key
use Rattle.adr_state.specs.declared.state.State.{State}
use Rattle.adr_view.specs.declared.sight.Sight.{Sight}
use Rattle.adr_view.specs.declared.sight.Sight.TheVariants as sight_of
use Rattle.adr_view.specs.declared.view.Content.{Content}
use Rattle.adr_view.specs.declared.view.Content.TheVariants as content
use Rattle.adr_view.specs.Laws.{StandsInOrder}
use Rattle.adr_view.specs.Views.{mark_rows, report_row, rollup_rows, rows_shown, view}
use Rattle.adr_view.proofs.ListLemmas.{all_flat, filter_alike}
use Rattle.adr_view.proofs.ShownLemmas.{view_made, shown_first, then_reports, then_rollups}
use Rattle.adr_view.proofs.ViewLemmas.{each_by_mark, each_rollup}
use Rattle.adr_refresh.proofs.Common.{All, All-map, append-nil, each_there, filter-append}
use Rattle.adr_queries.specs.Shown.{is_of, object_at, objects_in_sight, sees}
use Rattle.adr_answers.specs.Told.{program_in}

-- ---- lists

module _ {X Y : Type 0} (f : X → List Y) (passes : Y → Bool) (h : X → Option Y) (own : (x : X) → filter passes (f x) ≡ option_to_list (h x)) where
  first : (o : Option Y) (ys : List Y) → option_to_list o ++ ys ≡ cons_option o ys
  first None ys = refl
  first (Some y) ys = refl

  -- what passes of what is made of each
  passing_of_each : (xs : List X) → filter passes (flat_map f xs) ≡ filter_map h xs
  passing_of_each [] = refl
  passing_of_each (x ∷ xs) = filter-append passes (f x) (flat_map f xs) ∙ ap₂ ◌++◌ (own x) (passing_of_each xs) ∙ first (h x) (filter_map h xs)

-- what is made of what was made, where it was
pub made_where_made : {X Y Z W : Type 0} (f : X → Option Y) (a : Y → Z) (g : Z → Option W) (xs : List X) → filter_map g (filter_map (λ x. option_map a (f x)) xs) ≡ filter_map (λ y. g (a y)) (filter_map f xs)
made_where_made f a g [] = refl
made_where_made f a g (x ∷ xs) = by (f x) (made_where_made f a g xs)
  where
    by : (o : Option _) → filter_map g (filter_map (λ x. option_map a (f x)) xs) ≡ filter_map (λ y. g (a y)) (filter_map f xs) → filter_map g (cons_option (option_map a o) (filter_map (λ x. option_map a (f x)) xs)) ≡ filter_map (λ y. g (a y)) (cons_option o (filter_map f xs))
    by None rest = rest
    by (Some y) rest = ap (cons_option (g (a y))) rest

-- ---- the view

abbrev pub program_row : List ℕ × List ℕ → ViewKey × Content
program_row p = (key.Program p.0, content.Program p.1)

abbrev is_programs : Kind → Bool
is_programs kind.Program = true
is_programs kind.Event = false

module _ (base : Base) (passes : ViewKey × Content → Bool) (program : (id name : List ℕ) → passes (key.Program id, content.Program name) ≡ true) (event : (id : List ℕ) (n : ℕ) (c : Content) → passes (key.Event id n, c) ≡ false)
    (report : (n : ℕ) (c : Content) → passes (key.Report n, c) ≡ false) (rollup : (id : List ℕ) (c : Content) → passes (key.Rollup id, c) ≡ false) where
  of_kind : (k : Kind) (id : List ℕ) (mark : Mark) → cond (is_programs k) (mark_rows base (record { kind = k; id = id }, mark)) [] ≡ option_to_list (option_map program_row (program_in (record { kind = k; id = id }, mark)))
  of_kind kind.Program id Dead = refl
  of_kind kind.Program id (Live moment (body.Program name)) = refl
  of_kind kind.Program id (Live moment (body.Event it)) = refl
  of_kind kind.Program id (Live moment (body.Opaque reason)) = refl
  of_kind kind.Event id mark = refl

  own : (e : MirrorKey × Mark) → filter passes (mark_rows base e) ≡ option_to_list (option_map program_row (program_in e))
  own e =
      filter_alike passes (is_programs e.0.kind) (mark_rows base e) (each_by_mark base (λ k r. passes r ≡ is_programs k.kind) program (λ id it splits p. event id p.1.resource _) e)
      ∙ of_kind e.0.kind e.0.id e.1

  no_reports : filter passes (then_reports base) ≡ []
  no_reports = filter_alike passes false (then_reports base) (All-map (λ r. passes r ≡ false) report_row base.portfolio.reports (each_there (λ r. passes (report_row r) ≡ false) base.portfolio.reports (λ r there. report r.0 _)))

  no_rollups : filter passes (then_rollups base) ≡ []
  no_rollups = filter_alike passes false (then_rollups base)
      (all_flat (rollup_rows base) (λ r. passes r ≡ false) base.mirror (each_there (λ e. All (λ r. passes r ≡ false) (rollup_rows base e)) base.mirror (λ e there. each_rollup base (λ r. passes r ≡ false) e (λ it r is made. rollup e.0.id _))))

  of_marks : filter passes (rows_shown base) ≡ filter passes (shown_first base)
  of_marks =
      filter-append passes (shown_first base ++ then_reports base) (then_rollups base) ∙ ap (λ rows. filter passes (shown_first base ++ then_reports base) ++ rows) no_rollups ∙ append-nil (filter passes (shown_first base ++ then_reports base))
      ∙ filter-append passes (shown_first base) (then_reports base) ∙ ap (λ rows. filter passes (shown_first base) ++ rows) no_reports ∙ append-nil (filter passes (shown_first base))

  -- what passes of the view is a row of each program that is live
  pub programs_of_view : StandsInOrder base → filter passes (view base) ≡ filter_map (λ e. option_map program_row (program_in e)) base.mirror
  programs_of_view stands = ap (filter passes) (view_made base stands) ∙ of_marks ∙ passing_of_each (mark_rows base) passes (λ e. option_map program_row (program_in e)) own base.mirror

-- ---- what is told

module _ (s : State) (sight : Sight) (stands : StandsInOrder s.base) where
  abbrev passes_here : ViewKey × Content → Bool
  passes_here r = is_of kind.Program r.0 && sees s.base sight r.0

  seen : (sight : Sight) (id : List ℕ) → sees s.base sight (key.Program id) ≡ true
  seen sight_of.All id = refl
  seen (sight_of.Of ven) id = refl

  -- whoever sees anything is told each program that is live, with its stamps
  pub programs_are : objects_in_sight s kind.Program sight ≡ filter_map (λ p. object_at s.stamps (program_row p)) (filter_map program_in s.base.mirror)
  programs_are =
      ap (filter_map (object_at s.stamps)) (programs_of_view s.base passes_here (λ id name. seen sight id) (λ id n c. refl) (λ n c. refl) (λ id c. refl) stands)
      ∙ made_where_made program_in program_row (object_at s.stamps) s.base.mirror
