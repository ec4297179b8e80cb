-- Entries that come one group after another, while there is room for them, and how many there are in all.
use Rattle.std.specs.Prelude.{◌≡◌, ◌⊎◌, ℕ, ◌+◌, ◌-◌, ◌≤◌, ◌==◌, nat_lt, Bool, true, false, not, ◌&&◌, List, [], ◌++◌, length, Result, Err, OnOk, IfErr, All, if◌then◌else◌}
use Rattle.sqlite.specs.Store.{Ghosts}
use Rattle.sqlite.specs.Held.{Held, state}
use Rattle.sqlite.specs.State.{State, HasCleanDisk}
use Rattle.adr_text.specs.declared.refusal.Refusal.{Refusal}
use Rattle.adr_text.specs.declared.refusal.Refusal.TheVariants.{Exhausted, OutboxFull}
use Rattle.adr_text.specs.Refusals.{IsRefusalOf}
use Rattle.adr_delivery.specs.declared.entry.Entry.{Entry}
use Rattle.adr_state.specs.declared.limits.Limits.{Limits}
use Rattle.adr_db.specs.declared.meta.Meta.{Meta}
use Rattle.adr_db.specs.Kept.{Kept, Keeps}
use Rattle.adr_db.specs.Images.{outbox_of}
use Rattle.adr_delivery.specs.declared.outbox.Outbox.{Outbox}
use Rattle.adr_outbox.specs.Appended.{further, IsAppended}
use Rattle.adr_outbox.specs.Turned.{with_outbox}
use Rattle.adr_room.specs.declared.room.Room.{Room}

-- ---- numbers

-- so many entries came; where fewer numbers are left, they are short from now on
abbrev pub took : ℕ → Room → Room
took many room = if nat_lt room.left many then record room { left = 0; is_short = true } else record room { left = room.left - many }

-- whether numbers are wanting for these entries, where this one was drawn last
abbrev pub are_short : ℕ → ℕ → List Entry → Bool
are_short most last es = not (length es == 0) && nat_lt most (last + length es)

-- so many numbers are left once these entries came, and it is known whether they were short
pub record HasLeft (limits : Limits) (first : Meta) (es : List Entry) (room : Room) : Type 0 where
  pub left : room.left ≡ limits.serial - (first.serial + length es)
  pub short : room.is_short ≡ are_short limits.serial first.serial es

-- ---- entries

-- the entries that wait have numbers that were drawn
abbrev pub AreDrawn : Meta → Kept → Type 0
AreDrawn numbers kept = All (λ e. e.0 ≤ numbers.serial) kept.entries

-- these entries are appended to what was kept; where there are none, all is as it was
abbrev pub AreAppended : Limits → Meta → Meta → Kept → List Entry → State → Type 0
AreAppended limits first numbers kept es s = (es ≡ []) × (numbers ≡ first) × Keeps kept s ⊎ IsAppended limits es first numbers kept s

-- these entries came so far: it is known how many numbers are left, and where one had no room, they are more than may wait
pub record HaveCome (limits : Limits) (first : Meta) (kept : Kept) (es : List Entry) (room : Room) : Type 0 where
  pub left : HasLeft limits first es room
  pub full : room.is_full ≡ true → (not (length es == 0) && nat_lt limits.pending (length kept.entries + length es)) ≡ true

-- none lacked a number, nor room
abbrev pub HadRoom : Room → Type 0
HadRoom room = (room.is_short ≡ false) × (room.is_full ≡ false)

-- these entries came so far; while none lacked a number or room, all of them are appended; and in any case the tables keep
-- what they kept, but for the outbox
pub record AreSoFar (limits : Limits) (first : Meta) (kept : Kept) (es : List Entry) (room : Room) (numbers : Meta) (s : State) : Type 0 where
  pub come : HaveCome limits first kept es room
  pub written : HadRoom room → AreAppended limits first numbers kept es s
  pub tables : (o : Outbox) × Keeps (with_outbox o kept) s

module _ {S : Type 0} (g : Ghosts S) (old new : Held S) where
  -- after Ok, what came so far has come, and these entries behind it
  abbrev pub AddsTo : {T E : Type 0} → Limits → List Entry → Room → Room → Meta → Meta → Result T E → Type 0
  AddsTo limits entries before after numbers later result =
      HasCleanDisk (state g new)
      → OnOk result ((first : Meta) (kept : Kept) (es : List Entry) → first.pending ≡ length kept.entries → AreDrawn first kept
      → AreSoFar limits first kept es before numbers (state g old) → AreSoFar limits first kept (es ++ entries) after later (state g new))

  -- after Ok, the entries are appended, or it is known why they are not: they are short of numbers, or more than may wait
  abbrev pub Writes : {T E : Type 0} → Limits → List Entry → Room → Room → Meta → Meta → Result T E → Type 0
  Writes limits entries before after numbers later result =
      HasCleanDisk (state g new)
      → OnOk result ((kept : Kept) → Keeps kept (state g old) → numbers.pending ≡ length kept.entries
      → ((after ≡ before) × IsAppended limits entries numbers later kept (state g new))
      ⊎ ((after ≡ record before { is_full = true }) × (further limits numbers.serial entries (outbox_of numbers kept) ≡ Err OutboxFull) × Keeps kept (state g new))
      ⊎ ((after ≡ record before { is_short = true }) × (further limits numbers.serial entries (outbox_of numbers kept) ≡ Err Exhausted) × Keeps kept (state g new)))

-- in the end none lacked a number or room, so that all that came is appended
abbrev pub EndsWith : {T E : Type 0} → Room → Result T E → Type 0
EndsWith room result = OnOk result (HadRoom room)

-- or the refusal is that of all that came at once: for want of numbers, and then of room
abbrev pub RefusesAll : {T : Type 0} → Room → Result T Refusal → Type 0
RefusesAll room result =
    IfErr result (λ refusal. (limits : Limits) (first : Meta) (kept : Kept) (es : List Entry) → HaveCome limits first kept es room → IsRefusalOf refusal (further limits first.serial es (outbox_of first kept)))
