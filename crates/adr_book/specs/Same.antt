-- What stays of a book.
use Rattle.std.specs.Prelude.{◌≡◌}
use Rattle.adr_machine.specs.declared.desk.Desk.{Ghosts}
use Rattle.adr_book.specs.declared.kept.Book.{Book}
use Rattle.adr_book.specs.declared.trail.Trail as trail
use Rattle.adr_book.specs.Words.{base_of, since_of, trail_of, turn_of, desk_of, state_of, IsSound}

-- nothing that contracts see of a book has changed
abbrev pub IsSame : {D T L : Type 0} {g : Ghosts D} {h : trail.Ghosts T D} → Book D T L g h → Book D T L g h → Type 0
IsSame old new =
    (base_of new ≡ base_of old) × (since_of new ≡ since_of old) × (trail_of new ≡ trail_of old) × (turn_of new ≡ turn_of old)
    × (IsSound new → state_of new ≡ state_of old)

-- nor has the desk been touched
abbrev pub IsUntouched : {D T L : Type 0} {g : Ghosts D} {h : trail.Ghosts T D} → Book D T L g h → Book D T L g h → Type 0
IsUntouched old new = IsSame old new × (desk_of new ≡ desk_of old)
