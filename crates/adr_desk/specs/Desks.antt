-- What a desk holds.
use Rattle.std.specs.Prelude.{IsTrue}
use Rattle.sqlite.specs.Store.{Ghosts}
use Rattle.sqlite.specs.Held.{state}
use Rattle.sqlite.specs.State.{HasCleanDisk}
use Rattle.sqlite.specs.State as sql
use Rattle.adr_state.specs.declared.limits.Settings.{Settings}
use Rattle.adr_state.specs.declared.state.State.{State}
use Rattle.adr_db.specs.ReadBack.{state_in}
use Rattle.adr_desk.specs.declared.desk.SqlDesk.{SqlDesk}
use Rattle.adr_desk.specs.Since.{WasHeld}

-- what its store shows
abbrev pub shown : {S : Type 0} (g : Ghosts S) → SqlDesk S g → sql.State
shown g desk = state g desk.conn

-- what it is set to
abbrev pub settings_of : {S : Type 0} {g : Ghosts S} → SqlDesk S g → Settings
settings_of desk = desk.settings

-- its state: what its tables hold, read back
abbrev pub state_of : {S : Type 0} (g : Ghosts S) → SqlDesk S g → State
state_of g desk = state_in (shown g desk)

-- its store is open and gave back what was written
abbrev pub Stands : {S : Type 0} (g : Ghosts S) → SqlDesk S g → Type 0
Stands g desk = HasCleanDisk (shown g desk) × IsTrue (shown g desk).is_open

-- it stands, and its tables held some state as it was made: so they hold its state now
pub record IsSound {S : Type 0} (g : Ghosts S) (desk : SqlDesk S g) : Type 0 where
  pub clean : HasCleanDisk (shown g desk)
  pub is_open : IsTrue (shown g desk).is_open
  pub began : ∥ ((held : State) × WasHeld held desk.first.kept) ∥₁
