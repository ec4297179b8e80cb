-- Laws of what is shown, whatever the definitions are given.
use Rattle.std.specs.Prelude.{◌≡◌, ◌≤◌, ℕ, ℤ, Bool, true, false, List, filter, None, Some, option_map, IsSome, IfSome, IsSomeAnd, IfOk}
use Rattle.std.specs.List.{All, AllPairs, Contains, filter_map, list_any}
use Rattle.std.specs.Bool.{Decides}
use Rattle.std.specs.List.Sorted.{IsStrictlySortedBy}
use Rattle.std.specs.Map.{keys_of}
use Rattle.std.specs.Ordering.{nat_cmp, is_eq}
use Rattle.adr_split.specs.FairSplit.{sum_of_parts}
use Rattle.adr_split.specs.Laws.{AreWeights}
use Rattle.adr_objects.specs.declared.interval.Interval.{Interval}
use Rattle.adr_objects.specs.declared.body.EventBody.{EventBody}
use Rattle.adr_objects.specs.declared.report.RollupInterval.{RollupInterval}
use Rattle.adr_objects.specs.declared.shown.ShownEvent.{ShownEvent}
use Rattle.adr_state.specs.declared.base.Base.{Base}
use Rattle.adr_state.specs.declared.keys.ViewKey.{ViewKey}
use Rattle.adr_state.specs.declared.keys.ViewKey.TheVariants as key
use Rattle.adr_state.specs.declared.portfolio.Resource.{Resource}
use Rattle.adr_state.specs.declared.portfolio.Report.{Report}
use Rattle.adr_state.specs.declared.keys.ShareKey.{ShareKey}
use Rattle.adr_state.specs.declared.limits.Limits.{Limits}
use Rattle.adr_state.specs.declared.portfolio.Portfolio.{Portfolio}
use Rattle.adr_state.specs.BaseChanges.{ChangePortfolio, changed}
use Rattle.adr_state.specs.Frozen.{is_frozen, with_frozen}
use Rattle.adr_state.specs.Keys.{id_cmp, mirror_cmp, view_cmp, at}
use Rattle.adr_state.specs.Participants.{participants}
use Rattle.adr_state.specs.Portfolios.{PortfolioChange, portfolio_after, with_share, without_share}
use Rattle.adr_view.specs.declared.report.Reported.{Reported}
use Rattle.adr_view.specs.declared.rollup.Reporter.{Reporter}
use Rattle.adr_view.specs.declared.view.Content.{Content}
use Rattle.adr_view.specs.declared.view.Content.TheVariants as content
use Rattle.adr_view.specs.Same.{is_same_content}
use Rattle.adr_view.specs.Frozen.{pairs_of, mark_differs, freeze}
use Rattle.adr_view.specs.Reports.{reported_by}
use Rattle.adr_view.specs.Rollups.{value_in, latest_of, latest, reports_of, reporters, rollup_for, event_at, rollup_at}
use Rattle.adr_view.specs.Views.{split_interval, shown_of, view}

-- two contents count as the same exactly where they are equal
abbrev pub SameContentsAreEqual : Type 0
SameContentsAreEqual = (a b : Content) → Decides (is_same_content a b) (a ≡ b)

-- the parts of an interval sum to the setpoint that it carries, where there is a weight and each is at least 1
abbrev pub PartsSumUp : Type 0
PartsSumUp = (weights : List ℕ) (i : Interval) (v : ℤ) → AreWeights weights → i.setpoint ≡ Some v → IsSomeAnd (split_interval weights i).parts (λ parts. sum_of_parts parts ≡ v)

-- upstream keys stand in their order, and resources and reports in that of their numbers, each once
pub record StandsInOrder (base : Base) : Type 0 where
  pub upstream_keys : IsStrictlySortedBy mirror_cmp (keys_of base.mirror)
  pub resources : IsStrictlySortedBy nat_cmp (keys_of base.portfolio.resources)
  pub reports : IsStrictlySortedBy nat_cmp (keys_of base.portfolio.reports)

-- whether a key of the view is one of this upstream event
abbrev pub is_key_of : List ℕ → ViewKey → Bool
is_key_of id (key.Event other resource) = is_eq (id_cmp id other)
is_key_of id _ = false

-- where rows stand in order, what is shown of an event is all that the view has at keys of it, in the order in which it stands there
abbrev pub ShownIsOfTheView : Type 0
ShownIsOfTheView = (base : Base) (id : List ℕ) → StandsInOrder base → filter (λ r. is_key_of id r.0) (view base) ≡ shown_of base id

-- where rows stand in order, the view has each report at its key with what it says, and the roll-up of an event at its own, and nothing else at such keys
pub record OthersAreShown (base : Base) : Type 0 where
  pub reports : (n : ℕ) → at view_cmp (key.Report n) (view base) ≡ option_map (λ r. content.Report r.body) (at nat_cmp n base.portfolio.reports)
  pub rollups : (id : List ℕ) → at view_cmp (key.Rollup id) (view base) ≡ option_map (λ rollup. content.Rollup rollup) (rollup_at base.mirror base.portfolio id)

-- where rows stand in order, the view has at the key of a report what the report of that number says, and at that of
-- a roll-up the roll-up of that upstream event, and nothing there where there is none
abbrev pub ReportsAndRollupsAreShown : Type 0
ReportsAndRollupsAreShown = (base : Base) → StandsInOrder base → OthersAreShown base

-- ---- the latest value

-- a value, behind its revision, is one that a report among these has for an interval, and none of them that has one has a greater revision
pub record IsOfGreatestRevision (id : ℤ) (reports : List Report) (best : ℕ × ℤ) : Type 0 where
  pub report : Report
  pub is_there : Contains reports report
  pub has_it : value_in id report ≡ Some best
  pub none_is_greater : All (λ r. IfSome (value_in id r) (λ v. v.0 ≤ best.0)) reports

-- the latest value is that of the report of greatest revision among those that have one, and there is none only where none of them has one
pub record LatestIsOfGreatestRevision : Type 0 where
  pub of_some : (id : ℤ) (reports : List Report) (best : ℕ × ℤ) → latest_of id reports ≡ Some best → IsOfGreatestRevision id reports best
  pub of_none : (id : ℤ) (reports : List Report) → latest_of id reports ≡ None → All (λ r. value_in id r ≡ None) reports

-- ---- what a report may be on

-- what a report is on is this upstream event and this resource, with the program and the name that the resource is shown of the event
pub record IsOnShown (id : List ℕ) (resource : ℕ) (shown : ShownEvent) (on : Reported) : Type 0 where
  pub same_event : on.event ≡ id
  pub same_resource : on.resource ≡ resource
  pub same_program : on.program ≡ shown.program
  pub same_name : on.resource_name ≡ shown.resource_name

-- of an upstream event and a resource: where a report may be on it, the view has at their key an event, which is what it is on; and where the view has anything there, a report may be on it
pub record IsReportedAsShown (base : Base) (id : List ℕ) (r : ℕ × Resource) : Type 0 where
  pub what_is_reported_is_shown : (on : Reported) → reported_by base.mirror base.portfolio id r ≡ Some on → (shown : ShownEvent) × (at view_cmp (key.Event id r.0) (view base) ≡ Some (content.Event shown)) × IsOnShown id r.0 shown on
  pub what_is_shown_is_reported : IsSome (at view_cmp (key.Event id r.0) (view base)) → IsSome (reported_by base.mirror base.portfolio id r)

-- where rows stand in order, of every upstream event and every resource that is there: a report may be on it exactly
-- where the view has something at their key, which is then that event
abbrev pub ReportsAreOnTheShown : Type 0
ReportsAreOnTheShown = (base : Base) (id : List ℕ) (n : ℕ) (r : Resource) → StandsInOrder base → at nat_cmp n base.portfolio.resources ≡ Some r → IsReportedAsShown base id (n, r)

-- ---- the roll-up

-- the names that are told of an interval are of those whose latest value lacks, and of all of them, in the order of bytes and each once
pub record AreThoseThatLack (id : ℤ) (rs : List Reporter) (names : List (List ℕ)) : Type 0 where
  pub in_order : IsStrictlySortedBy id_cmp names
  pub who_lacks_is_named : (r : Reporter) → Contains rs r → latest id r.reports ≡ None → Contains names r.name
  pub who_is_named_lacks : (name : List ℕ) → Contains names name → (r : Reporter) × Contains rs r × (latest id r.reports ≡ None) × (r.name ≡ name)

-- in an interval each of them counts by one value, its latest, or is named
pub record CountsEachOnce (rs : List Reporter) (i : RollupInterval) : Type 0 where
  pub sum_of_the_latest : i.sum ≡ sum_of_parts (filter_map (λ r. latest i.id r.reports) rs)
  pub named_where_it_lacks : AreThoseThatLack i.id rs i.missing

-- no report is of both
abbrev pub HaveNoneInCommon : Reporter → Reporter → Type 0
HaveNoneInCommon a b = (report : Report) → Contains a.reports report → Contains b.reports report → ⊥

-- in each of the intervals of a roll-up each of those who report counts by one value, its latest, or is named; and
-- where rows stand in order, no report of an event is of two of its participants
pub record RollupsCountEachOnce : Type 0 where
  pub each_by_its_latest : (event : EventBody) (rs : List Reporter) → IfSome (rollup_for event rs) (λ rollup. All (CountsEachOnce rs) rollup.intervals)
  pub each_report_of_one : (base : Base) (id : List ℕ) (event : EventBody) → StandsInOrder base → AllPairs HaveNoneInCommon (reporters (reports_of id base.portfolio.reports) (participants base.portfolio id event))

-- ---- freezing

-- those who take part in each live event stay, with their weights
abbrev pub LeavesWhoTakesPart : Base → PortfolioChange → Type 0
LeavesWhoTakesPart base change = (id : List ℕ) (event : EventBody) → event_at base.mirror id ≡ Some event → participants base.portfolio id event ≡ participants (portfolio_after change base.portfolio) id event

-- what is decided of an event that is frozen leaves who takes part in it, and in each other, and all that is shown
pub record FreezingLeavesAll : Type 0 where
  pub who_takes_part : (limits : Limits) (id : List ℕ) (base : Base) → IfOk (freeze limits id base.mirror base.portfolio) (λ d. LeavesWhoTakesPart base d.1)
  pub what_is_shown : (limits : Limits) (id : List ℕ) (base : Base) → IfOk (freeze limits id base.mirror base.portfolio) (λ d. view base ≡ view (changed (ChangePortfolio d.1) base))

-- where rows stand in order, no others take part in a live event once it is frozen with the pairs of those who do: so it
-- is refused only for want of room
abbrev pub FreezingKeepsWhoTakesPart : Type 0
FreezingKeepsWhoTakesPart = (base : Base) (id : List ℕ) (event : EventBody) → StandsInOrder base → event_at base.mirror id ≡ Some event
    → list_any (mark_differs id (pairs_of (participants base.portfolio id event)) base.portfolio) base.mirror ≡ false

-- of an event that is frozen those who take part stay, whatever body it has, whatever share is put or goes, and where it
-- is frozen again
pub record FrozenStay (p : Portfolio) (id : List ℕ) : Type 0 where
  pub whatever_body : (one other : EventBody) → participants p id one ≡ participants p id other
  pub whatever_share : (key : ShareKey) (weight : ℕ) (event : EventBody) → participants p id event ≡ participants (with_share key weight p) id event
  pub without_a_share : (key : ShareKey) (event : EventBody) → participants p id event ≡ participants (without_share key p) id event
  pub frozen_again : (pairs : List (ℕ × ℕ)) → with_frozen id pairs p ≡ p

-- an event that is frozen keeps those who take part against any other body and any edit of shares
abbrev pub FrozenIsKept : Type 0
FrozenIsKept = (p : Portfolio) (id : List ℕ) → is_frozen p id ≡ true → FrozenStay p id
