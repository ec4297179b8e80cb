-- Those who share in a program, kept from one event to the next.
use Rattle.std.specs.Prelude.{◌≡◌, ℕ, List, Result, IfOk, OnOk, IfSome}
use Rattle.sqlite.specs.Store.{Ghosts}
use Rattle.sqlite.specs.Held.{Held, state}
use Rattle.sqlite.specs.State.{HasCleanDisk}
use Rattle.adr_db.specs.Kept.{Kept, Keeps}
use Rattle.adr_db.specs.Sharing.{sharers}
use Rattle.adr_db_portfolio.specs.declared.participant.Sharers.{Sharers}

-- those of a program, if they are of one, are those who share in it by what is kept
abbrev pub AreThoseOf : Kept → Sharers → Type 0
AreThoseOf kept s = IfSome s.program (λ program. s.those ≡ sharers program kept)

module _ {S : Type 0} (g : Ghosts S) (old new : Held S) where
  -- after Ok, where they were right, they are those of this program
  abbrev pub FindsThose : {T E : Type 0} → List ℕ → Sharers → Sharers → Result T E → Type 0
  FindsThose program before after result =
      HasCleanDisk (state g new) → OnOk result ((kept : Kept) → Keeps kept (state g old) → AreThoseOf kept before → (after.those ≡ sharers program kept) × AreThoseOf kept after × Keeps kept (state g new))

  -- after Ok, where they were right, the answer is by what is kept, and so are they still
  abbrev pub FindsOf : {T E : Type 0} → Sharers → Sharers → (Kept → T → Type 0) → Result T E → Type 0
  FindsOf before after IsRight result =
      HasCleanDisk (state g new) → IfOk result (λ x. (kept : Kept) → Keeps kept (state g old) → AreThoseOf kept before → IsRight kept x × AreThoseOf kept after × Keeps kept (state g new))
