-- Laws of a state that the tables hold together with what is shown of it.
use Rattle.std.specs.Prelude.{◌≡◌, ◌<◌, ℕ, List, [], None, Ok, IsTrue}
use Rattle.std.specs.Ordering.{nat_cmp}
use Rattle.sqlite.specs.State as sql
use Rattle.adr_state.specs.declared.base.Base.{Base}
use Rattle.adr_state.specs.declared.limits.Limits.{Limits}
use Rattle.adr_state.specs.declared.limits.Settings.{Settings}
use Rattle.adr_state.specs.declared.state.State.{State}
use Rattle.adr_state.specs.Keys.{at}
use Rattle.adr_state.specs.States.{empty}
use Rattle.adr_view.specs.Laws.{StandsInOrder}
use Rattle.adr_queries.specs.declared.answer.Answer.{Answer}
use Rattle.adr_machine.specs.declared.command.Command.{Command}
use Rattle.adr_machine.specs.declared.outcome.Outcome.{Outcome}
use Rattle.adr_machine.specs.Edits.{edit}
use Rattle.adr_machine.specs.Runs.{step_at}
use Rattle.adr_machine.specs.Steps.{step}
use Rattle.adr_laws.specs.Standing.{state_of}
use Rattle.adr_db.specs.Bases.{Beside, meta_of, HoldsBeside}
use Rattle.adr_db.specs.Kept.{Keeps, nothing_kept, numbers_lost}
use Rattle.adr_db.specs.ReadBack.{state_in}
use Rattle.adr_kept_base.specs.Bases.{KeepsShown, VensStay}
use Rattle.adr_held.specs.Held.{beside_of, kept_of, HoldsState, AreLeftWith, HoldsFirst, AreLeftFirst}
use Rattle.adr_held.specs.Right.{IsRight}

-- ---- what is held

-- a state that the tables hold is what they hold, read back
abbrev pub WhatIsHeldReadsBack : sql.State → Type 0
WhatIsHeldReadsBack s = (held : State) → HoldsState held s → state_in s ≡ held

-- where the tables hold a state, its rows stand in order, and what stands beside its base keeps what is shown of that
abbrev pub HeldKeepsShown : sql.State → Type 0
HeldKeepsShown s = (held : State) → HoldsState held s → StandsInOrder held.base × KeepsShown (beside_of held) held.base

-- whoever keeps what is shown of a base keeps it whatever serial is drawn, and whatever else stands beside the base, while what
-- is kept of events and of roll-ups stays, and the stamps
abbrev pub ShownStandsAlone : Type 0
ShownStandsAlone = (beside later : Beside) (base : Base) (serial : ℕ) → later.shown ≡ beside.shown → later.rollups ≡ beside.rollups → later.stamps ≡ beside.stamps → KeepsShown beside base → KeepsShown later (record base { serial = serial })

-- what stands beside a base has the numbers, the stamps and the outbox of a state
pub record IsBesideOf (next : State) (end : Beside) : Type 0 where
  pub own_numbers : end.numbers ≡ meta_of next
  pub own_stamps : end.stamps ≡ next.stamps
  pub own_remotes : end.remotes ≡ next.outbox.remotes
  pub own_entries : end.entries ≡ next.outbox.entries

-- where it keeps what is shown of the base of that, the tables hold both, and the state is right, they hold the state
abbrev pub ShownIsHeld : sql.State → Type 0
ShownIsHeld s = (next : State) (end : Beside) → IsBesideOf next end → KeepsShown end next.base → HoldsBeside end next.base s → IsRight next → HoldsState next s

-- tables that keep nothing hold the state at first
abbrev pub EmptyIsHeld : sql.State → Type 0
EmptyIsHeld s = Keeps nothing_kept s → HoldsState empty s

-- ---- what is right

-- a number is of no resource, and of no entry that waits
pub record IsNew (n : ℕ) (state : State) : Type 0 where
  pub of_no_resource : at nat_cmp n state.base.portfolio.resources ≡ None
  pub of_no_entry : at nat_cmp n state.outbox.entries ≡ None

-- so is each number that was not drawn
abbrev pub UndrawnIsNew : Type 0
UndrawnIsNew = (state : State) (n : ℕ) → IsRight state → state.base.serial < n → IsNew n state

-- where rows stand in order, an edit leaves each resource that is there before and after it with its ven
abbrev pub EditsKeepVens : Type 0
EditsKeepVens = (limits : Limits) (now : ℕ) (command : Command) (held : State) (said : Outcome) (next : Base) → edit limits now held.base command ≡ Ok (said, next) → StandsInOrder held.base → IsRight held → VensStay held.base.portfolio next.portfolio

-- in a state that is right no entry lacks its subscription, so none is to be dropped
abbrev pub NoneIsLost : Type 0
NoneIsLost = (state : State) → IsRight state → numbers_lost (kept_of state) ≡ []

-- a step that is answered leads from a state that is right to one that is
abbrev pub RightStays : Type 0
RightStays = (settings : Settings) (now : ℕ) (command : Command) (held next : State) (answer : Answer) → step settings held now command ≡ Ok (answer, next) → IsRight held → IsRight next

-- after any run from an empty start the state is right
abbrev pub RunsAreRight : Type 0
RunsAreRight = (settings : Settings) (cs : List (ℕ × Command)) → IsRight (state_of (step_at settings) empty cs)

-- ---- after a crash

-- tables that are open over trees which a crash left hold the state that these were left with
abbrev pub LeftIsHeld : sql.State → Type 0
LeftIsHeld s = IsTrue s.is_open → (held : State) → AreLeftWith held s.now.trees → HoldsState held s

-- so do those that were left in version 1
abbrev pub FirstLeftIsHeld : sql.State → Type 0
FirstLeftIsHeld s = IsTrue s.is_open → (held : State) → AreLeftFirst held s.now.trees → HoldsFirst held s
