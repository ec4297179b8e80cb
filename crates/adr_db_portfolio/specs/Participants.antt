-- Why it isn't found who takes part in an event.
use Rattle.std.specs.Prelude.{◌≡◌, ◌⊎◌, ℕ, List, [], ◌∷◌}
use Rattle.std.specs.List.{AllZip}
use Rattle.sqlite.specs.Store.{Ghosts}
use Rattle.sqlite.specs.Held.{Held}
use Rattle.sqlite.specs.declared.types.Value.TheVariants.{Text}
use Rattle.adr_text.specs.declared.refusal.Refusal.{Refusal}
use Rattle.adr_text.specs.declared.refusal.Refusal.TheVariants.{OutOfMemory}
use Rattle.adr_db.specs.Rows.{event_key_row}
use Rattle.adr_db.specs.Admitted.{IsIdText, ReadsId, ReadsParticipant}
use Rattle.adr_db.specs.Refusals.{IsShowRefusal, CannotRead, CannotReadFirst}
use Rattle.adr_db_portfolio.specs.Sharers.{AreSharers}
use Rattle.adr_db_portfolio.specs.declared.frozen.TheConstants.{READ_ONE}
use Rattle.adr_db_portfolio.specs.declared.sharers.TheConstants.{READ_SHARERS, READ_FROZEN}

-- those whom a statement shows for an id were not read
abbrev pub IsSharersRefusal : {S : Type 0} → Ghosts S → Held S → Held S → List ℕ → List ℕ → Refusal → Type 0
IsSharersRefusal g old new sql id = IsShowRefusal g old new sql (Text id ∷ []) (CannotRead AreSharers (AllZip ReadsParticipant))

-- those who share in a program, if they were not known, were not read; or memory ran out
abbrev pub IsReadRefusal : {S : Type 0} → Ghosts S → Held S → Held S → List ℕ → Refusal → Type 0
IsReadRefusal g old new program refusal = (refusal ≡ OutOfMemory) ⊎ IsSharersRefusal g old new READ_SHARERS.now program refusal

-- it was not read whether the event is frozen; or behind that, those for whom a weight is kept in it, or those who share in the program, were not read
abbrev pub IsFindRefusal : {S : Type 0} → Ghosts S → Held S → Held S → List ℕ → List ℕ → Refusal → Type 0
IsFindRefusal {S} g old new id program refusal =
    IsShowRefusal g old new READ_ONE.now (event_key_row id) (CannotReadFirst IsIdText ReadsId) refusal
    ⊎ ((mid : Held S) × (IsSharersRefusal g mid new READ_FROZEN.now id refusal ⊎ IsReadRefusal g mid new program refusal))
