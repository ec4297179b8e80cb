-- What a desk finds of what an earlier one left.
use Rattle.std.specs.Prelude.{◌≡◌}
use Rattle.sqlite.specs.Store.{Ghosts}
use Rattle.sqlite.specs.Tree.{Trees}
use Rattle.adr_state.specs.declared.state.State.{State}
use Rattle.adr_held.specs.Held.{AreLeftInEither}
use Rattle.adr_desk.specs.declared.desk.SqlDesk.{SqlDesk}
use Rattle.adr_desk.specs.Desks.{state_of, IsSound}

module _ {S : Type 0} (g : Ghosts S) where
  -- it is sound, and has the state that these trees were left with, under this version or the first one
  abbrev pub FindsLeft : Trees → SqlDesk S g → Type 0
  FindsLeft trees again = (held : State) → AreLeftInEither held trees → IsSound g again × (state_of g again ≡ held)

  -- so it is of one of the outcomes of a crash
  abbrev pub Finds : (Trees → Type 0) → SqlDesk S g → Type 0
  Finds may_leave again = (trees : Trees) × may_leave trees × FindsLeft trees again
