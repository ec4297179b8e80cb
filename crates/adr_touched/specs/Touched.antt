-- What a command touches, as its visits go over it one after another: programs, events, reports and roll-ups.
use Rattle.std.specs.Prelude.{◌≡◌, ℕ, List, [], map, ◌++◌, Option, None, Some, option_and_then, All, fold, if◌then◌else◌}
use Rattle.std.specs.BTreeSet.{insert_key}
use Rattle.std.specs.List.{filter_map}
use Rattle.std.specs.List.Sorted.{IsStrictlySortedBy}
use Rattle.std.specs.Map.{keys_of}
use Rattle.std.specs.declared.cmp.Ordering.{Ordering}
use Rattle.std.specs.Ordering.{nat_cmp, is_eq}
use Rattle.adr_objects.specs.declared.kind.Kind.{Kind}
use Rattle.adr_objects.specs.declared.kind.Kind.TheVariants as kind
use Rattle.adr_state.specs.declared.base.Base.{Base}
use Rattle.adr_state.specs.declared.base.Mark.{Mark}
use Rattle.adr_state.specs.declared.keys.MirrorKey.{MirrorKey}
use Rattle.adr_state.specs.declared.keys.ShareKey.{ShareKey}
use Rattle.adr_state.specs.declared.portfolio.Report.{Report}
use Rattle.adr_state.specs.declared.portfolio.Resource.{Resource}
use Rattle.adr_state.specs.declared.portfolio.Ven.{Ven}
use Rattle.adr_state.specs.BaseChanges.{BaseChange, JoinMarks, ChangePortfolio, changed}
use Rattle.adr_state.specs.Keys.{id_cmp, kind_cmp}
use Rattle.adr_state.specs.Mirror.{joined}
use Rattle.adr_state.specs.Portfolios.{PutVen, PutResource, PutShare, DropShare, PutReport, DropReport}
use Rattle.adr_view.specs.declared.view.Content.{Content}
use Rattle.adr_view.specs.declared.view.Content.TheVariants as content
use Rattle.adr_refresh.specs.Laws.{HasAllThatDiffer}
use Rattle.adr_refresh.specs.Sources.{Source, RolledUp, source_cmp}
use Rattle.adr_refresh.specs.Touched.{upstream_event, touched}
use Rattle.adr_db.specs.Kept.{Kept}
use Rattle.adr_kept_view.specs.declared.object.ObjectKey.{ObjectKey}
use Rattle.adr_kept_view.specs.declared.object.ObjectKey.TheVariants as object
use Rattle.adr_kept_view.specs.declared.object.OldObject.{OldObject}
use Rattle.adr_kept_view.specs.Objects.{StoodIn, as_object, content_kept, ven_of}
use Rattle.adr_mirror.specs.Raises.{HaveRisen}
use Rattle.adr_touched.specs.declared.touched.Touched.{Touched}
use Rattle.adr_touched.specs.Answers.{HasEach}

-- ---- what is visited

-- the sources, as they are visited: programs, then events, reports and roll-ups
abbrev pub sources_in : Touched → List Source
sources_in t = map as_object.source t.programs ++ map upstream_event t.events ++ map as_object.source t.reports ++ map RolledUp t.rollups

-- the sources stand in their order, each once; and of programs and reports it is said what stood there before
pub record StandsTouched (before : Base) (t : Touched) : Type 0 where
  pub in_order : IsStrictlySortedBy source_cmp (sources_in t)
  pub programs : All (StoodIn before) t.programs
  pub reports : All (StoodIn before) t.reports

-- they stand so, and among them is each of which something else is shown behind a change
pub record Covers (c : BaseChange) (before : Base) (t : Touched) : Type 0 where
  pub stands : StandsTouched before t
  pub all : HasAllThatDiffer before (changed c before) (sources_in t)

-- where a change touches nothing at all, it is covered
abbrev pub CoversWhatTouchesNothing : Touched → Type 0
CoversWhatTouchesNothing t = (c : BaseChange) (base : Base) → touched c base ≡ [] → Covers c base t

-- ---- edits of the portfolio

-- whatever is made of a share in a program is covered: a weight is put, or the share goes
pub record CoversShares (program : List ℕ) (base : Base) (t : Touched) : Type 0 where
  pub put : (key : ShareKey) (weight : ℕ) → key.program ≡ program → Covers (ChangePortfolio (PutShare key weight)) base t
  pub dropped : (key : ShareKey) → key.program ≡ program → Covers (ChangePortfolio (DropShare key)) base t

-- whatever is put as the resource of a number is covered
abbrev pub CoversResource : ℕ → Base → Touched → Type 0
CoversResource n base t = (resource : Resource) → Covers (ChangePortfolio (PutResource n resource)) base t

-- whatever is put as the ven of a number is covered
abbrev pub CoversVen : ℕ → Base → Touched → Type 0
CoversVen n base t = (ven : Ven) → Covers (ChangePortfolio (PutVen n ven)) base t

-- the event that a report is on, by what is shown of it
abbrev pub event_of : Content → Option (List ℕ)
event_of (content.Report body) = Some body.head.event
event_of _ = None

-- where a report stood so before, it is covered that it goes, and that one on this event is put in its place
pub record CoversReport (old : OldObject) (event : Option (List ℕ)) (t : Touched) : Type 0 where
  pub put : (base : Base) (n : ℕ) (report : Report) → old.key ≡ object.Report n → StoodIn base old → event ≡ Some report.body.head.event → Covers (ChangePortfolio (PutReport n report)) base t
  pub dropped : (base : Base) (n : ℕ) → old.key ≡ object.Report n → StoodIn base old → Covers (ChangePortfolio (DropReport n)) base t

-- ---- in order

-- items in their order, each once
abbrev pub set_of : {A : Type 0} → (A → A → Ordering) → List A → List A
set_of cmp xs = fold (insert_key cmp) [] xs

-- the id of an upstream key, where it is of a kind
abbrev pub id_at : Kind → MirrorKey → Option (List ℕ)
id_at kind k = if is_eq (kind_cmp kind k.kind) then Some k.id else None

-- the ids of the upstream keys of a kind, in order, each once
abbrev pub ids_of : Kind → List MirrorKey → List (List ℕ)
ids_of kind keys = set_of id_cmp (filter_map (id_at kind) keys)

-- ---- what stood before

-- what stands at a key of what tables keep, and the ven that owns it
abbrev pub old_object : Kept → ObjectKey → OldObject
old_object kept k = record { key = k; content = content_kept k kept; ven = option_and_then (ven_of kept.portfolio) (content_kept k kept) }

-- at a key, and what stood there before
pub record StoodAt (k : ObjectKey) (base : Base) (old : OldObject) : Type 0 where
  pub key : old.key ≡ k
  pub stood : StoodIn base old

-- reports as tables keep them, in the order of their numbers, each once; among them is each of these
pub record ReportsStood (numbers : List ℕ) (kept : Kept) (olds : List OldObject) : Type 0 where
  pub read : List ℕ
  pub among : HasEach read numbers
  pub are : olds ≡ map (old_object kept) (map object.Report (set_of nat_cmp read))

-- the programs among upstream keys, in order, each once, and what stood there before
pub record ProgramsStoodAt (keys : List MirrorKey) (base : Base) (olds : List OldObject) : Type 0 where
  pub in_order : map (λ (old : OldObject). old.key) olds ≡ map object.Program (ids_of kind.Program keys)
  pub stood : All (StoodIn base) olds

-- those at the keys of marks
abbrev pub ProgramsStood : List (MirrorKey × Mark) → Base → List OldObject → Type 0
ProgramsStood marks = ProgramsStoodAt (keys_of marks)

-- ---- evidence

-- where these are the programs at the keys of marks, and these keys rise by them, the marks are covered, whatever scan is
-- open then
abbrev pub CoversEvidence : List OldObject → List MirrorKey → Touched → Type 0
CoversEvidence programs risen t = (base : Base) (marks : List (MirrorKey × Mark)) (scan : Option (List MirrorKey)) → ProgramsStood marks base programs → HaveRisen base.mirror (joined base.mirror marks) risen → Covers (JoinMarks marks scan) base t
