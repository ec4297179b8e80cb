-- What is true of each desk, of each in memory, and of what a crash leaves.
use Rattle.std.specs.Prelude.{◌≡◌, ◌⊎◌, Result, IsTrue}
use Rattle.sqlite_trees.specs.declared.memory.MemStore.{MemStore}
use Rattle.sqlite.specs.Tree.{Trees}
use Rattle.sqlite.specs.Store.{Ghosts}
use Rattle.sqlite.specs.Held.{Held, state}
use Rattle.sqlite.specs.State as sql
use Rattle.adr_text.specs.declared.refusal.Refusal.{Refusal}
use Rattle.adr_state.specs.declared.state.State.{State}
use Rattle.adr_queries.specs.declared.answer.Answer.{Answer}
use Rattle.adr_held.specs.Held.{HoldsState, HoldsInEither, AreLeftWith, AreLeftInEither}
use Rattle.sqlite.specs.Steps.{over_memory}
use Rattle.adr_desk.specs.declared.desk.SqlDesk.{SqlDesk}
use Rattle.adr_desk.specs.Desks.{shown, state_of, IsSound, Stands}
use Rattle.adr_desk.specs.Steps.{LeftStepped}

-- while a store is open, a crash leaves the last commit and nothing else
abbrev pub LeavesLastCommit : sql.State → Type 0
LeavesLastCommit s = IsTrue s.is_open → (trees : Trees) → s.may_leave trees → trees ≡ s.committed.trees

-- the store of each desk in memory is open and gave back what was written
abbrev pub MemoryStands : Type 0
MemoryStands = (desk : SqlDesk MemStore over_memory) → Stands over_memory desk

-- Of a command on a sound desk, which survives a stop as the calls of a desk do, a stop at any moment of it or behind it leaves the state before the
-- command, or the one after it.
abbrev pub StopsLeaveSteps : {S : Type 0} (g : Ghosts S) → SqlDesk S g → Type 0
StopsLeaveSteps {S} g desk =
    (after : SqlDesk S g) (step : State → Result (Answer × State) Refusal)
    → IsSound g desk
    → sql.Survives (shown g desk) (shown g after) (λ trees. (held : State) → HoldsState held (shown g desk) → LeftStepped step held trees)
    → sql.HasCleanDisk (shown g after)
    → (trees : Trees) → (shown g after).may_leave trees
    → ∥ AreLeftWith (state_of g desk) trees ⊎ LeftStepped step (state_of g desk) trees ∥₁

-- Of tables that were kept, in version 1 or in that of today, while they are made ready or behind that, a stop leaves the state that they held, in
-- one of the two.
abbrev pub StopsLeaveVersions : {S : Type 0} (g : Ghosts S) → Held S → Type 0
StopsLeaveVersions {S} g old =
    (new : Held S) (held : State)
    → IsTrue (state g old).is_open
    → HoldsInEither held (state g old)
    → sql.Survives (state g old) (state g new) (λ trees. (h : State) → HoldsInEither h (state g old) → AreLeftWith h trees)
    → sql.HasCleanDisk (state g new)
    → (trees : Trees) → (state g new).may_leave trees
    → AreLeftInEither held trees

-- the tables of a sound desk hold its state
abbrev pub SoundIsHeld : {S : Type 0} (g : Ghosts S) → SqlDesk S g → Type 0
SoundIsHeld g desk = IsSound g desk → ∥ HoldsState (state_of g desk) (shown g desk) ∥₁
