-- What contracts see of a book and of a pass.
use Rattle.std.specs.Prelude.{◌≡◌, ℕ, ◌+◌, ◌≤◌, IsTrue, List, length, Some}
use Rattle.adr_state.specs.declared.state.State.{State}
use Rattle.adr_state.specs.declared.limits.Settings.{Settings}
use Rattle.adr_machine.specs.declared.command.Command.{Command}
use Rattle.adr_machine.specs.declared.desk.Desk.{Ghosts}
use Rattle.adr_book.specs.Trail.{led, most_turns}
use Rattle.adr_book.specs.declared.kept.Book.{Book}
use Rattle.adr_book.specs.declared.kept.Pass.{Pass}
use Rattle.adr_book.specs.declared.trail.Trail as trail

module _ {D T L : Type 0} {g : Ghosts D} {h : trail.Ghosts T D} where
  -- the state that the trail begins with
  abbrev pub base_of : Book D T L g h → State
  base_of book = h.base book.trail

  -- the turn of the base
  abbrev pub since_of : Book D T L g h → ℕ
  since_of book = h.since book.trail

  -- the commands accepted since then, each with its moment
  abbrev pub trail_of : Book D T L g h → List (ℕ × Command)
  trail_of book = h.commands book.trail

  -- how many commands were ever accepted
  abbrev pub turn_of : Book D T L g h → ℕ
  turn_of book = book.turn

  -- how many of them the ledger has counted
  abbrev pub counted_by : Book D T L g h → ℕ
  counted_by book = book.total.total

  abbrev pub desk_of : Book D T L g h → D
  desk_of book = book.desk

  -- the state of the desk
  abbrev pub state_of : Book D T L g h → State
  state_of book = g.state (desk_of book)

  -- what the desk is set to
  abbrev pub settings_of : Book D T L g h → Settings
  settings_of book = g.settings (desk_of book)

  -- the trail is kept in memory
  abbrev pub IsKeeping : Book D T L g h → Type 0
  IsKeeping book = IsTrue h.keeps

  -- the desk is sound
  abbrev pub IsSound : Book D T L g h → Type 0
  IsSound book = g.is_sound (desk_of book)

module _ {L : Type 0} where
  -- the last turn that the holder was told of
  abbrev pub seen_by : Pass L → ℕ
  seen_by pass = pass.turn

  -- the turns that the holder has taken
  abbrev pub taken_by : Pass L → ℕ
  taken_by pass = pass.share.amount

-- what a book keeps whenever nobody holds it: where its desk is sound the trail leads from the base to its state; the
-- turn counts the trail, from that of the base on, and the ledger each turn; the turn is within its limit, and so is a
-- trail that is kept in memory
pub record IsKept {D T L : Type 0} {g : Ghosts D} {h : trail.Ghosts T D} (book : Book D T L g h) : Type 0 where
  pub leads : IsSound book → led (settings_of book) (base_of book) (trail_of book) ≡ Some (state_of book)
  pub turn : turn_of book ≡ since_of book + length (trail_of book)
  pub total : counted_by book ≡ turn_of book
  pub most : turn_of book ≤ most_turns
  pub within : IsKeeping book → length (trail_of book) ≤ (settings_of book).limits.trail
