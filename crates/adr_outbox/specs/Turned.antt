-- What a call makes of the outbox, as the tables and the caller's numbers hold it.
use Rattle.std.specs.Prelude.{◌≡◌, length, Result, Ok, IfOk, IfErr}
use Rattle.sqlite.specs.Store.{Ghosts}
use Rattle.sqlite.specs.Held.{Held, state}
use Rattle.sqlite.specs.State.{State, HasCleanDisk}
use Rattle.adr_text.specs.declared.refusal.Refusal.{Refusal}
use Rattle.adr_text.specs.Refusals.{IsRefusalOf}
use Rattle.adr_delivery.specs.declared.outbox.Outbox.{Outbox}
use Rattle.adr_db.specs.declared.meta.Meta.{Meta}
use Rattle.adr_db.specs.Kept.{Kept, Keeps}
use Rattle.adr_db.specs.Bases.{counting}
use Rattle.adr_db.specs.Images.{outbox_of}

-- what is kept with the entries and the ids of an outbox
abbrev pub with_outbox : Outbox → Kept → Kept
with_outbox o kept = record kept { entries = o.entries; remotes = o.remotes }

-- what is decided of the outbox is an answer, and the outbox after it; the tables keep that, and the numbers count it
pub record IsTurned {T : Type 0} (decide : Outbox → Result (T × Outbox) Refusal) (before after : Meta) (kept : Kept) (x : T) (s : State) : Type 0 where
  pub outbox : Outbox
  pub decided : decide (outbox_of before kept) ≡ Ok (x, outbox)
  pub keeps : Keeps (with_outbox outbox kept) s
  pub counted : after ≡ counting outbox before

module _ {S : Type 0} (g : Ghosts S) (old new : Held S) where
  -- after Ok, what is decided of the outbox is carried out and answered, and the caller's numbers count it, where
  -- they said how many entries wait
  abbrev pub TurnsOutbox : {T E : Type 0} → (Outbox → Result (T × Outbox) Refusal) → Meta → Meta → Result T E → Type 0
  TurnsOutbox decide before after result =
      HasCleanDisk (state g new) → IfOk result (λ x. (kept : Kept) → Keeps kept (state g old) → before.pending ≡ length kept.entries → IsTurned decide before after kept x (state g new))

  -- a refusal is that of what is decided of the outbox, or want of memory or the store's in its place, where they said so
  abbrev pub RefusesOutbox : {A T : Type 0} → (Outbox → Result A Refusal) → Meta → Result T Refusal → Type 0
  RefusesOutbox decide before result =
      HasCleanDisk (state g new) → IfErr result (λ refusal. (kept : Kept) → Keeps kept (state g old) → before.pending ≡ length kept.entries → IsRefusalOf refusal (decide (outbox_of before kept)))
