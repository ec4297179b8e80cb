-- What is touched stands in the order of its visits, and covers a change.
use Rattle.std.proofs.Common.{◌≡◌, inl, inr, ℕ, Bool, true, false, cond, List, [], ◌++◌, map, Less, refl, sym, ap, ap₂, subst, ◌∙◌, arith}
use Rattle.std.proofs.lemmas.List.Elements.{Contains-append_cases}
use Rattle.adr_objects.specs.declared.kind.Kind.TheVariants as kind
use Rattle.adr_state.specs.declared.base.Base.{Base}
use Rattle.adr_state.specs.declared.keys.MirrorKey.{MirrorKey}
use Rattle.adr_state.specs.BaseChanges.{BaseChange, ChangePortfolio}
use Rattle.adr_state.specs.Portfolios.{PortfolioChange}
use Rattle.adr_view.proofs.ListLemmas.{from_map, in_map, sorted_map}
use Rattle.adr_refresh.specs.Sources.{Source, Upstream, Reported, RolledUp, source_cmp, source_of}
use Rattle.adr_refresh.specs.Touched.{upstream_event, is_shared, shares_touched, events_touched, reports_touched, touched as touches}
use Rattle.adr_refresh.proofs.Common.{All-nil, Contains, Contains-append_left, Contains-append_right, IsStrictlySortedBy, id_cmp, nat_cmp, none_sorted}
use Rattle.adr_refresh.proofs.OtherLemmas.{others_as_before}
use Rattle.adr_db.proofs.Common.{map-map}
use Rattle.adr_kept_view.specs.declared.object.ObjectKey.{ObjectKey}
use Rattle.adr_kept_view.specs.declared.object.ObjectKey.TheVariants as object
use Rattle.adr_kept_view.specs.declared.object.OldObject.{OldObject}
use Rattle.adr_kept_view.specs.Objects.{StoodIn, as_object, view_key}
use Rattle.adr_touched.specs.declared.touched.Touched.{Touched}
use Rattle.adr_touched.specs.Answers.{HasEach}
use Rattle.adr_touched.specs.Touched.{sources_in, StandsTouched, Covers, CoversWhatTouchesNothing}
use Rattle.adr_touched.proofs.InOrder.{sorted_append}

-- what is made of a program
abbrev pub program_at : List ℕ → Source
program_at id = Upstream (record { kind = kind.Program; id = id })

-- ---- in order

-- programs, events, reports and roll-ups by their keys
module _ (programs events : List (List ℕ)) (reports : List ℕ) (rollups : List (List ℕ)) where
  abbrev pub upstream_first : List Source
  upstream_first = map program_at programs ++ map upstream_event events

  abbrev pub then_reports : List Source
  then_reports = upstream_first ++ map Reported reports

  -- all in the order of the visits
  abbrev pub in_turn : List Source
  in_turn = then_reports ++ map RolledUp rollups

  -- what stands before reports and roll-ups
  is_before : (s : Source) → Contains upstream_first s → (k : MirrorKey) × (s ≡ Upstream k)
  is_before s there = elim (Contains-append_cases (map program_at programs) (map upstream_event events) s there) [
    | inl program ↦ let from = from_map program_at programs s program in (record { kind = kind.Program; id = from.0 }, from.2)
    | inr event ↦ let from = from_map upstream_event events s event in (record { kind = kind.Event; id = from.0 }, from.2)
  ]

  before_rollups : (s : Source) → Contains then_reports s → (id : List ℕ) → source_cmp s (RolledUp id) ≡ Less
  before_rollups s there id = elim (Contains-append_cases upstream_first (map Reported reports) s there) [
    | inl upstream ↦ let k = is_before s upstream in rw k.1 refl
    | inr report ↦ let from = from_map Reported reports s report in rw from.2 refl
  ]

  pub turn_sorted : IsStrictlySortedBy id_cmp programs → IsStrictlySortedBy id_cmp events → IsStrictlySortedBy nat_cmp reports → IsStrictlySortedBy id_cmp rollups → IsStrictlySortedBy source_cmp in_turn
  turn_sorted by_program by_event by_report by_rollup =
      let first : IsStrictlySortedBy source_cmp upstream_first =
      sorted_append source_cmp (map program_at programs) (map upstream_event events)
      (sorted_map id_cmp source_cmp program_at (λ a b less. less) programs by_program)
      (sorted_map id_cmp source_cmp upstream_event (λ a b less. less) events by_event)
      (λ s t one other. let p = from_map program_at programs s one in let e = from_map upstream_event events t other in rw (p.2, e.2) refl) in
      let second : IsStrictlySortedBy source_cmp then_reports =
      sorted_append source_cmp upstream_first (map Reported reports) first (sorted_map nat_cmp source_cmp Reported (λ a b less. less) reports by_report)
      (λ s t one other. let k = is_before s one in let r = from_map Reported reports t other in rw (k.1, r.2) refl) in
      sorted_append source_cmp then_reports (map RolledUp rollups) second (sorted_map id_cmp source_cmp (λ id. RolledUp id) (λ a b less. less) rollups by_rollup)
      (λ s t one other. let r = from_map RolledUp rollups t other in rw r.2 (before_rollups s one r.0))

-- the sources of items are those of their keys
pub by_keys : (olds : List OldObject) (keys : List ObjectKey) → map (λ (old : OldObject). old.key) olds ≡ keys → map as_object.source olds ≡ map (λ k. source_of (view_key k)) keys
by_keys olds keys is = sym (map-map (λ k. source_of (view_key k)) (λ (old : OldObject). old.key) olds) ∙ ap (map (λ k. source_of (view_key k))) is

pub programs_by_keys : (olds : List OldObject) (ids : List (List ℕ)) → map (λ (old : OldObject). old.key) olds ≡ map object.Program ids → map as_object.source olds ≡ map program_at ids
programs_by_keys olds ids is = by_keys olds (map object.Program ids) is ∙ map-map (λ k. source_of (view_key k)) object.Program ids

pub reports_by_keys : (olds : List OldObject) (ns : List ℕ) → map (λ (old : OldObject). old.key) olds ≡ map object.Report ns → map as_object.source olds ≡ map Reported ns
reports_by_keys olds ns is = by_keys olds (map object.Report ns) is ∙ map-map (λ k. source_of (view_key k)) object.Report ns

-- what is touched, by the keys of its programs and reports
pub record HasKeys (programs : List (List ℕ)) (reports : List ℕ) (t : Touched) : Type 0 where
  pub by_id : map (λ (old : OldObject). old.key) t.programs ≡ map object.Program programs
  pub by_number : map (λ (old : OldObject). old.key) t.reports ≡ map object.Report reports

pub sources_by_keys : (programs : List (List ℕ)) (reports : List ℕ) (t : Touched) → HasKeys programs reports t → sources_in t ≡ in_turn programs t.events reports t.rollups
sources_by_keys programs reports t has = ap₂ (λ (ps rs : List Source). ps ++ map upstream_event t.events ++ rs ++ map RolledUp t.rollups) (programs_by_keys t.programs programs has.by_id) (reports_by_keys t.reports reports has.by_number)

-- ---- what covers

pub covers : (c : BaseChange) (base : Base) (t : Touched) → StandsTouched base t → HasEach (sources_in t) (touches c base) → Covers c base t
covers c base t stands has = record { stands = stands; all = λ s free. others_as_before c base s (λ there. free (has s there)) }

-- among what is touched is all that an edit of the portfolio touches
pub record HasTouched (c : PortfolioChange) (base : Base) (t : Touched) : Type 0 where
  pub shared : is_shared c ≡ true → HasEach t.events (events_touched c base)
  pub reported : HasEach (map as_object.source t.reports) (map Reported (reports_touched c base))
  pub rolled : HasEach t.rollups (events_touched c base)

module _ (t : Touched) where
  abbrev programs_first : List Source
  programs_first = map as_object.source t.programs

  abbrev events_next : List Source
  events_next = programs_first ++ map upstream_event t.events

  abbrev reports_next : List Source
  reports_next = events_next ++ map as_object.source t.reports

  pub event_among : (s : Source) → Contains (map upstream_event t.events) s → Contains (sources_in t) s
  event_among s there = Contains-append_left reports_next (map RolledUp t.rollups) s (Contains-append_left events_next (map as_object.source t.reports) s (Contains-append_right programs_first (map upstream_event t.events) s there))

  pub program_among : (s : Source) → Contains (map as_object.source t.programs) s → Contains (sources_in t) s
  program_among s there = Contains-append_left reports_next (map RolledUp t.rollups) s (Contains-append_left events_next (map as_object.source t.reports) s (Contains-append_left programs_first (map upstream_event t.events) s there))

  pub report_among : (s : Source) → Contains (map as_object.source t.reports) s → Contains (sources_in t) s
  report_among s there = Contains-append_left reports_next (map RolledUp t.rollups) s (Contains-append_right events_next (map as_object.source t.reports) s there)

  pub rollup_among : (s : Source) → Contains (map RolledUp t.rollups) s → Contains (sources_in t) s
  rollup_among s there = Contains-append_right reports_next (map RolledUp t.rollups) s there

  -- where each of some items is there, each that is made of them is
  pub each_made : {A : Type 0} (f : A → Source) (xs ys : List A) → HasEach xs ys → (s : Source) → Contains (map f ys) s → Contains (map f xs) s
  each_made f xs ys has s there = let from = from_map f ys s there in subst (Contains (map f xs)) (sym from.2) (in_map f xs from.0 (has from.0 from.1))

  shared_there : (shared : Bool) (ids : List (List ℕ)) → (shared ≡ true → HasEach t.events ids) → (s : Source) → Contains (cond shared (map upstream_event ids) []) s → Contains (sources_in t) s
  shared_there true ids has s there = event_among s (each_made upstream_event t.events ids (has refl) s there)
  shared_there false ids has s there = absurd (omega (arith, there.1))

  pub edit_covered : (c : PortfolioChange) (base : Base) → StandsTouched base t → HasTouched c base t → Covers (ChangePortfolio c) base t
  edit_covered c base stands has = covers (ChangePortfolio c) base t stands (λ s there.
      elim (Contains-append_cases (shares_touched c base ++ map Reported (reports_touched c base)) (map RolledUp (events_touched c base)) s there) [
        | inl first ↦ elim (Contains-append_cases (shares_touched c base) (map Reported (reports_touched c base)) s first) [
          | inl event ↦ shared_there (is_shared c) (events_touched c base) has.shared s event
          | inr report ↦ report_among s (has.reported s report)
        ]
        | inr rollup ↦ rollup_among s (each_made RolledUp t.rollups (events_touched c base) has.rolled s rollup)
      ])

-- ---- where nothing is touched

abbrev pub nothing : Touched
nothing = record { programs = []; events = []; reports = []; rollups = [] }

pub none_covers : CoversWhatTouchesNothing nothing
none_covers c base none = covers c base nothing
    (record { in_order = none_sorted source_cmp; programs = All-nil (StoodIn base); reports = All-nil (StoodIn base) })
    (λ s there. subst (λ (ss : List Source). Contains ss s) none there)
