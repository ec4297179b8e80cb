-- What a call makes of the outbox that appends entries to it, as the tables and the caller's numbers hold it.
use Rattle.std.specs.Prelude.{◌≡◌, ◌+◌, ℕ, List, length, Result, Ok, OnOk}
use Rattle.sqlite.specs.Store.{Ghosts}
use Rattle.sqlite.specs.Held.{Held, state}
use Rattle.sqlite.specs.State.{State, HasCleanDisk}
use Rattle.adr_text.specs.Refusals.{◌>>=◌}
use Rattle.adr_text.specs.declared.refusal.Refusal.{Refusal}
use Rattle.adr_delivery.specs.declared.entry.Entry.{Entry}
use Rattle.adr_delivery.specs.declared.outbox.Outbox.{Outbox}
use Rattle.adr_delivery.specs.Outboxes.{check_room}
use Rattle.adr_state.specs.declared.limits.Limits.{Limits}
use Rattle.adr_notices.specs.Committed.{with_further}
use Rattle.adr_db.specs.declared.meta.Meta.{Meta}
use Rattle.adr_db.specs.Kept.{Kept, Keeps}
use Rattle.adr_db.specs.Bases.{counting}
use Rattle.adr_db.specs.Images.{outbox_of}
use Rattle.adr_outbox.specs.Turned.{with_outbox}

-- where there are numbers and room for all of them, each is appended at the number that is drawn next; with the
-- serial then; else 4 for want of numbers, and then 3 for want of room
abbrev pub further : Limits → ℕ → List Entry → Outbox → Result (Outbox × ℕ) Refusal
further limits serial entries o = check_room limits.serial limits.pending serial (length o.entries) (length entries) >>= λ _. Ok (with_further serial entries o)

-- numbers once so many more were drawn, and so many entries wait
abbrev pub with_drawn : ℕ → ℕ → Meta → Meta
with_drawn many waiting numbers = record numbers { serial = numbers.serial + many; pending = waiting }

-- so is decided of the outbox; the tables keep the one after it, and the numbers count it, with the last number that was drawn
pub record IsAppended (limits : Limits) (entries : List Entry) (before after : Meta) (kept : Kept) (s : State) : Type 0 where
  pub outbox : Outbox
  pub serial : ℕ
  pub decided : further limits before.serial entries (outbox_of before kept) ≡ Ok (outbox, serial)
  pub keeps : Keeps (with_outbox outbox kept) s
  pub counted : after ≡ record (counting outbox before) { serial = serial }

-- after Ok, they are appended, where the caller's numbers said how many entries wait
abbrev pub Appends : {S T E : Type 0} → Ghosts S → Held S → Held S → Limits → List Entry → Meta → Meta → Result T E → Type 0
Appends g old new limits entries before after result =
    HasCleanDisk (state g new) → OnOk result ((kept : Kept) → Keeps kept (state g old) → before.pending ≡ length kept.entries → IsAppended limits entries before after kept (state g new))
