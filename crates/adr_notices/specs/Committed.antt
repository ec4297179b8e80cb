-- What becomes of the outbox as a command is committed.
use Rattle.std.specs.Prelude.{ℕ, ◌+◌, List, length, Result, Ok}
use Rattle.std.specs.List.{enumerate_from}
use Rattle.adr_text.specs.Refusals.{◌>>=◌}
use Rattle.adr_text.specs.declared.refusal.Refusal.{Refusal}
use Rattle.adr_state.specs.declared.limits.Limits.{Limits}
use Rattle.adr_subscription.specs.declared.kept_sub.Sub.{Sub}
use Rattle.adr_delivery.specs.declared.entry.Entry.{Entry}
use Rattle.adr_delivery.specs.declared.outbox.Outbox.{Outbox}
use Rattle.adr_delivery.specs.Outboxes.{kept_for, check_room, appended}

-- each entry with the number that is drawn for it, one after another, where a number was drawn last
abbrev pub numbered : ℕ → List Entry → List (ℕ × Entry)
numbered last entries = enumerate_from (last + 1) entries

-- further entries are appended at their numbers, and the last of these is the serial then
abbrev pub with_further : ℕ → List Entry → Outbox → Outbox × ℕ
with_further serial entries o = (appended (numbered serial entries) o, serial + length entries)

-- the outbox without the entries of subscriptions that are not there and with the further ones, and the serial then,
-- where there are numbers for all of them, and room once those others are dropped: 4 and then 3
abbrev pub outbox_after : Limits → ℕ → Outbox → List (ℕ × Sub) → List Entry → Result (Outbox × ℕ) Refusal
outbox_after limits serial o subs entries =
    check_room limits.serial limits.pending serial (length (kept_for subs o).entries) (length entries) >>= λ _. Ok (with_further serial entries (kept_for subs o))
