-- Laws over whole runs.
use Rattle.std.specs.Prelude.{◌≡◌, ◌≢◌, ◌≤◌, ℕ, true, false, List, [], ◌∷◌, ◌++◌, map, filter, Option, Some, IsSome, IfSome, Result, Ok, Err, IfOk, IfErr}
use Rattle.std.specs.List.{All, AllPairs, AllZip, Contains}
use Rattle.std.specs.List.Sorted.{IsStrictlySortedBy, IsNonDecreasing}
use Rattle.std.specs.Map.{keys_of, values_of}
use Rattle.std.specs.Ordering.{nat_cmp}
use Rattle.adr_text.specs.declared.refusal.Refusal.{Refusal}
use Rattle.adr_objects.specs.declared.body.EventBody.{EventBody}
use Rattle.adr_objects.specs.declared.kind.Kind.{Kind}
use Rattle.adr_subscription.specs.declared.kept_sub.Sub.{Sub}
use Rattle.adr_state.specs.declared.base.Base.{Base}
use Rattle.adr_state.specs.declared.portfolio.Ven.{Ven}
use Rattle.adr_state.specs.declared.portfolio.Resource.{Resource}
use Rattle.adr_state.specs.declared.portfolio.Report.{Report}
use Rattle.adr_state.specs.declared.base.Mark.{Mark}
use Rattle.adr_state.specs.declared.base.Mark.TheVariants.{Dead}
use Rattle.adr_state.specs.declared.keys.MirrorKey.{MirrorKey}
use Rattle.adr_state.specs.declared.keys.FrozenKey.{FrozenKey}
use Rattle.adr_state.specs.declared.keys.ShareKey.{ShareKey}
use Rattle.adr_state.specs.declared.keys.ViewKey.{ViewKey}
use Rattle.adr_state.specs.declared.keys.ViewKey.TheVariants as key
use Rattle.adr_state.specs.declared.limits.Settings.{Settings}
use Rattle.adr_state.specs.declared.state.State.{State}
use Rattle.adr_state.specs.Keys.{mirror_cmp, view_cmp, at}
use Rattle.adr_state.specs.Marks.{is_below}
use Rattle.adr_state.specs.Mirror.{evidence_of}
use Rattle.adr_state.specs.Participants.{participants}
use Rattle.adr_state.specs.Portfolios.{reported_on}
use Rattle.adr_state.specs.States.{empty}
use Rattle.adr_state.specs.Weights.{most_weight}
use Rattle.adr_view.specs.declared.view.Content.{Content}
use Rattle.adr_view.specs.Views.{view}
use Rattle.adr_view.specs.Laws.{StandsInOrder}
use Rattle.adr_queries.specs.declared.answer.Answer.{Answer}
use Rattle.adr_machine.specs.declared.command.Command.{Command}
use Rattle.adr_machine.specs.declared.command.Command.TheVariants.{Evidence, Gone}
use Rattle.adr_view.specs.declared.sight.Sight.{Sight}
use Rattle.adr_machine.specs.Runs.{state_after, stands, step_at, IsRun}
use Rattle.adr_machine.specs.Edits.{edit}
use Rattle.adr_machine.specs.declared.outcome.Outcome.{Outcome}
use Rattle.adr_machine.specs.Steps.{outbox_then, committed}
use Rattle.adr_queries.specs.declared.answer.Object.{Object}
use Rattle.adr_queries.specs.Shown.{rows_in_sight, objects_in_sight, object_shown}
use Rattle.adr_laws.specs.Enrolled.{enrolled}
use Rattle.adr_laws.specs.ShownParts.{IsLive, IsSharedOut}
use Rattle.adr_laws.specs.Standing.{answers_of, state_of, standing}
use Rattle.adr_laws.specs.Told.{Tells, is_object}

-- what a command tells of upstream keys
abbrev pub evidence_in : Command → List (MirrorKey × Mark)
evidence_in (Evidence founds polled) = evidence_of founds
evidence_in (Gone kind id) = (record { kind = kind; id = id }, Dead) ∷ []
evidence_in _ = []

-- the same, where the command was accepted
abbrev pub accepted_in : Result (Answer × State) Refusal → Command → List (MirrorKey × Mark)
accepted_in (Ok taken) command = evidence_in command
accepted_in (Err refusal) command = []

-- all accepted evidence of a run
abbrev pub accepted_evidence : Settings → State → List (ℕ × Command) → List (MirrorKey × Mark)
accepted_evidence settings s [] = []
accepted_evidence settings s (c ∷ cs) = accepted_in (step_at settings s c) c.1 ++ accepted_evidence settings (state_after s (step_at settings s c)) cs

-- what is known of a key is the greatest of the marks that the evidence has for it: none of them is above it, and it is one of them
pub record IsGreatestOf (evidence : List (MirrorKey × Mark)) (key : MirrorKey) (known : Option Mark) : Type 0 where
  pub none_is_above : (mark : Mark) → Contains evidence (key, mark) → is_below known mark ≡ false
  pub is_one_of_them : (mark : Mark) → known ≡ Some mark → Contains evidence (key, mark)

-- after any run from an empty start, the mirror at a key is the greatest mark in all accepted evidence for it
abbrev pub MirrorIsGreatest : Type 0
MirrorIsGreatest = (settings : Settings) (cs : List (ℕ × Command)) (key : MirrorKey) → IsGreatestOf (accepted_evidence settings empty cs) key (at mirror_cmp key (state_of (step_at settings) empty cs).base.mirror)

-- ---- vens, resources and shares

-- the ven of a resource is there
abbrev pub HasVen : List (ℕ × Ven) → ℕ × Resource → Type 0
HasVen vens r = IsSome (at nat_cmp r.1.ven vens)

-- the resource of a share is there
abbrev pub HasResource : List (ℕ × Resource) → ShareKey × ℕ → Type 0
HasResource resources s = IsSome (at nat_cmp s.0.resource resources)

-- its weight is from 1 to 1,000,000
abbrev pub HasWeight : ShareKey × ℕ → Type 0
HasWeight s = (1 ≤ s.1) × (s.1 ≤ most_weight)

-- the resource of a frozen share is there
abbrev pub HasFrozenResource : List (ℕ × Resource) → FrozenKey × ℕ → Type 0
HasFrozenResource resources s = IsSome (at nat_cmp s.0.resource resources)

-- its weight is from 1 to 1,000,000
abbrev pub HasFrozenWeight : FrozenKey × ℕ → Type 0
HasFrozenWeight s = (1 ≤ s.1) × (s.1 ≤ most_weight)

-- the resource that a report is on is there
abbrev pub HasReported : List (ℕ × Resource) → ℕ × Report → Type 0
HasReported resources r = IsSome (at nat_cmp (reported_on r) resources)

-- the ven of a subscription is there, where it is of one
abbrev pub HasOwner : List (ℕ × Ven) → ℕ × Sub → Type 0
HasOwner vens s = IfSome s.1.owner (λ ven. IsSome (at nat_cmp ven vens))

-- rows of one name, or of whatever names a row, have one number
abbrev pub NamesDiffer : {V X : Type 0} → (V → X) → List (ℕ × V) → Type 0
NamesDiffer name rows = All (λ a. All (λ b. name a.1 ≡ name b.1 → a.0 ≡ b.0) rows) rows

-- nothing is left of a ven or of a resource that is not there, no resource, no share, no frozen share, no report and no subscription; each share has a weight within its bounds, and no two vens have one name, nor two resources
pub record IsWhole (base : Base) : Type 0 where
  pub resources_have_vens : All (HasVen base.portfolio.vens) base.portfolio.resources
  pub shares_have_resources : All (HasResource base.portfolio.resources) base.portfolio.shares
  pub shares_have_weights : All HasWeight base.portfolio.shares
  pub frozen_have_resources : All (HasFrozenResource base.portfolio.resources) base.portfolio.frozen_shares
  pub frozen_have_weights : All HasFrozenWeight base.portfolio.frozen_shares
  pub reports_have_resources : All (HasReported base.portfolio.resources) base.portfolio.reports
  pub subs_have_owners : All (HasOwner base.portfolio.vens) base.portfolio.subs
  pub ven_names_differ : NamesDiffer (λ ven. ven.name) base.portfolio.vens
  pub resource_names_differ : NamesDiffer (λ resource. resource.name) base.portfolio.resources

-- after any run from an empty start, each resource has its ven, each share its resource and a weight, each frozen share too, each report its resource, each subscription of a ven that ven, and names are unique
abbrev pub PortfolioIsWhole : Type 0
PortfolioIsWhole = (settings : Settings) (cs : List (ℕ × Command)) → IsWhole (state_of (step_at settings) empty cs).base

-- ---- the order of rows

-- after any run from an empty start, upstream keys, resources and reports stand in their order, each once
abbrev pub RowsStandInOrder : Type 0
RowsStandInOrder = (settings : Settings) (cs : List (ℕ × Command)) → StandsInOrder (state_of (step_at settings) empty cs).base

-- ---- who takes part, and the parts that they are shown

-- where the portfolio is whole, the participants of an event are exactly the resources that are enrolled for it, in their order, each with its weight: none lacks for want of a ven
abbrev pub ParticipantsLackNone : Type 0
ParticipantsLackNone = (base : Base) (id : List ℕ) (event : EventBody) → IsWhole base → map (λ p. (p.resource, p.weight)) (participants base.portfolio id event) ≡ enrolled base.portfolio id event

-- wherever the portfolio is whole and rows stand in order, each live event is shared out
abbrev pub ShownPartsSumUp : Type 0
ShownPartsSumUp = (base : Base) (id : List ℕ) (event : EventBody) → IsWhole base → StandsInOrder base → IsLive base id event → IsSharedOut base id event

-- so it is after any run from an empty start
abbrev pub ShownPartsSumUpAfterRuns : Type 0
ShownPartsSumUpAfterRuns = (settings : Settings) (cs : List (ℕ × Command)) (id : List ℕ) (event : EventBody) → IsLive (state_of (step_at settings) empty cs).base id event → IsSharedOut (state_of (step_at settings) empty cs).base id event

-- where upstream keys stand in order, whatever is shown at the key of an event is of one that is live upstream
abbrev pub OnlyLiveEventsAreShown : Type 0
OnlyLiveEventsAreShown = (base : Base) (id : List ℕ) (resource : ℕ) → StandsInOrder base → IsSome (at view_cmp (key.Event id resource) (view base)) → (event : EventBody) × IsLive base id event

-- ---- numbers

-- the numbers of the vens, of the resources, of the reports and of the subscriptions
abbrev pub numbers_of : Base → List ℕ
numbers_of base = ((keys_of base.portfolio.vens ++ keys_of base.portfolio.resources) ++ keys_of base.portfolio.reports) ++ keys_of base.portfolio.subs

-- each number was drawn, and no two of them are one, neither of one kind nor of two
pub record HaveOwnNumbers (base : Base) : Type 0 where
  pub at_least_one : All (λ n. 1 ≤ n) (numbers_of base)
  pub up_to_the_serial : All (λ n. n ≤ base.serial) (numbers_of base)
  pub no_two_are_one : AllPairs (λ m n. m ≢ n) (numbers_of base)

-- from one base to a later one the serial does not fall, and no number that was drawn before is drawn again: a ven, a resource, a report or a subscription that has one was there with it before
pub record AreDrawnOnce (before after : Base) : Type 0 where
  pub serial_never_falls : before.serial ≤ after.serial
  pub vens_were_there : All (λ n. n ≤ before.serial → Contains (keys_of before.portfolio.vens) n) (keys_of after.portfolio.vens)
  pub resources_were_there : All (λ n. n ≤ before.serial → Contains (keys_of before.portfolio.resources) n) (keys_of after.portfolio.resources)
  pub reports_were_there : All (λ n. n ≤ before.serial → Contains (keys_of before.portfolio.reports) n) (keys_of after.portfolio.reports)
  pub subs_were_there : All (λ n. n ≤ before.serial → Contains (keys_of before.portfolio.subs) n) (keys_of after.portfolio.subs)

-- after any run from an empty start, each ven, each resource, each report and each subscription has a number of its own, that was drawn
abbrev pub NumbersAreOwn : Type 0
NumbersAreOwn = (settings : Settings) (cs : List (ℕ × Command)) → HaveOwnNumbers (state_of (step_at settings) empty cs).base

-- the revision of a report is its number or was drawn later, and no two reports have one
pub record HaveOwnRevisions (base : Base) : Type 0 where
  pub from_their_number : All (λ r. r.0 ≤ r.1.revision) base.portfolio.reports
  pub up_to_the_serial : All (λ r. r.1.revision ≤ base.serial) base.portfolio.reports
  pub no_two_are_one : NamesDiffer (λ report. report.revision) base.portfolio.reports

-- after any run from an empty start, the revisions of reports are so
abbrev pub RevisionsAreOwn : Type 0
RevisionsAreOwn = (settings : Settings) (cs : List (ℕ × Command)) → HaveOwnRevisions (state_of (step_at settings) empty cs).base

-- and whatever commands follow, none is drawn again
abbrev pub NumbersAreDrawnOnce : Type 0
NumbersAreDrawnOnce = (settings : Settings) (cs more : List (ℕ × Command)) → AreDrawnOnce (state_of (step_at settings) empty cs).base (state_of (step_at settings) empty (cs ++ more)).base

-- ---- stamps

-- all that is shown has stamps, and nothing else has: they have the keys of the view, in its order, each once
pub record IsStampedAsShown (s : State) : Type 0 where
  pub those_of_the_view : keys_of s.stamps ≡ keys_of (view s.base)
  pub each_once_in_order : IsStrictlySortedBy view_cmp (keys_of s.stamps)

-- after any run from an empty start, what is shown is stamped, and nothing else
abbrev pub StampsAreOfTheView : Type 0
StampsAreOfTheView = (settings : Settings) (cs : List (ℕ × Command)) → IsStampedAsShown (state_of (step_at settings) empty cs)

-- and where no command comes at a moment before that of an earlier one, nothing that is shown was modified before it was created
abbrev pub StampsAreInTime : Type 0
StampsAreInTime = (settings : Settings) (cs : List (ℕ × Command)) → IsNonDecreasing (map (λ c. c.0) cs) → All (λ stamps. stamps.created ≤ stamps.modified) (values_of (state_of (step_at settings) empty cs).stamps)

-- ---- what is accepted is answered

-- the commit of an edit is refused by nothing but what the entries of it are refused by, want of numbers or of room: never by want of stamps
abbrev pub IsAnsweredWhereTold : Settings → State → ℕ → Outcome × Base → Type 0
IsAnsweredWhereTold settings s now e = IfErr (committed settings s now e.0 e.1) (λ refusal. outbox_then settings s now e.1 ≡ Err refusal)

-- where what is shown is stamped and rows stand in order, a command whose edit is accepted is answered wherever there are numbers and room for what is told of it: a report that is told has its stamps
abbrev pub ReportsAreAnswered : Type 0
ReportsAreAnswered = (settings : Settings) (s : State) (c : ℕ × Command) → IsStampedAsShown s → StandsInOrder s.base → IfOk (edit settings.limits c.0 s.base c.1) (IsAnsweredWhereTold settings s c.0)

-- so it is after any run from an empty start
abbrev pub ReportsAreAnsweredAfterRuns : Type 0
ReportsAreAnsweredAfterRuns = (settings : Settings) (cs : List (ℕ × Command)) (c : ℕ × Command) →
    IfOk (edit settings.limits c.0 (state_of (step_at settings) empty cs).base c.1) (IsAnsweredWhereTold settings (state_of (step_at settings) empty cs) c.0)

-- ---- programs and events in sight

-- where what is shown is stamped, the programs, or the events, in sight are those at all their keys that are in sight, one by one and in order: none lacks for want of stamps
abbrev pub ObjectsLackNone : Type 0
ObjectsLackNone = (s : State) (kind : Kind) (sight : Sight) → IsStampedAsShown s → AllZip (Tells s.stamps) (rows_in_sight s.base kind sight) (objects_in_sight s kind sight)

-- and what stands at a key is told, but for roll-ups, which are no objects: it never counts as not there for want of stamps
abbrev pub ShownIsTold : Type 0
ShownIsTold = (s : State) (key : ViewKey) (c : Content) → IsStampedAsShown s → is_object key ≡ true → at view_cmp key (view s.base) ≡ Some c → (o : Object) × (object_shown s key ≡ Some o) × Tells s.stamps (key, c) o

-- ---- runs over desks

-- the answers that stand are those of the machine over the commands that stand, and these lead to t
pub record IsOfTheStepsThatStand {A C S : Type 0} (step : S → C → Result (A × S) Refusal) (s : S) (cs : List C) (rs : List (Result A Refusal)) (t : S) : Type 0 where
  pub answers : filter stands rs ≡ answers_of step s (standing cs rs)
  pub state : t ≡ state_of step s (standing cs rs)

-- of whatever a run over a desk answers, the answers that stand are the machine's over the commands that stand, and
-- the state is where these lead
abbrev pub RunsAreOfTheStepsThatStand : Type 0
RunsAreOfTheStepsThatStand = (settings : Settings) (s t : State) (cs : List (ℕ × Command)) (rs : List (Result Answer Refusal)) → IsRun (step_at settings) s cs rs t → IsOfTheStepsThatStand (step_at settings) s cs rs t
