-- What a call makes of what the tables keep, where what is decided may refuse.
use Rattle.std.specs.Prelude.{◌≡◌, Result, Ok, IfOk}
use Rattle.sqlite.specs.Store.{Ghosts}
use Rattle.sqlite.specs.Held.{Held, state}
use Rattle.sqlite.specs.State.{HasCleanDisk}
use Rattle.adr_text.specs.declared.refusal.Refusal.{Refusal}
use Rattle.adr_db.specs.Kept.{Kept, Keeps}

module _ {S : Type 0} (g : Ghosts S) (old new : Held S) where
  -- after Ok, the answer is what is decided of what the tables kept, and they keep it still
  abbrev pub FindsOr : {A E : Type 0} → (Kept → Result A Refusal) → Result A E → Type 0
  FindsOr decide result = HasCleanDisk (state g new) → IfOk result (λ x. (kept : Kept) → Keeps kept (state g old) → (decide kept ≡ Ok x) × Keeps kept (state g new))
