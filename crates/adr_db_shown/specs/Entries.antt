-- What is kept of a shown event, behind its key, as it is read; which keys are of some resources and an event; and which upstream keys are live events of a
-- program.
use Rattle.std.specs.Prelude.{ℕ, Bool, false, ◌&&◌, nat_le, List}
use Rattle.std.specs.Option.{option_map_or}
use Rattle.std.specs.Ordering.{is_eq}
use Rattle.sqlite.specs.Order.{Row}
use Rattle.adr_state.specs.declared.base.Mark.{Mark}
use Rattle.adr_state.specs.declared.keys.MirrorKey.{MirrorKey}
use Rattle.adr_state.specs.declared.keys.ViewKey.{ViewKey}
use Rattle.adr_state.specs.declared.keys.ViewKey.TheVariants as key
use Rattle.adr_state.specs.Keys.{id_cmp}
use Rattle.adr_db.specs.declared.shown.ShownColumns.{ShownColumns}
use Rattle.adr_db.specs.declared.shown.ShownKey.{ShownKey}
use Rattle.adr_db.specs.Rows.{program_of}
use Rattle.adr_db.specs.Admitted.{IsShownKey, AreShownColumns, ReadsShownKey, ReadsShownColumns}

-- a shown event's key, with what is kept of it
abbrev pub IsShownEntry : ShownKey × ShownColumns → Type 0
IsShownEntry e = IsShownKey e.0 × AreShownColumns e.1

-- the row reads as this key, and behind it as this
abbrev pub ReadsShownEntry : Row → ShownKey × ShownColumns → Type 0
ReadsShownEntry row e = ReadsShownKey row e.0 × ReadsShownColumns row e.1

-- whether a key is that of what a resource from the one number to the other is shown of this event
abbrev pub is_key_between : List ℕ → ℕ → ℕ → ViewKey → Bool
is_key_between event first last (key.Program id) = false
is_key_between event first last (key.Event id resource) = is_eq (id_cmp event id) && (nat_le first resource && nat_le resource last)
is_key_between event first last (key.Report n) = false
is_key_between event first last (key.Rollup id) = false

-- whether a mark says a live event of this program
abbrev pub is_event_of : List ℕ → MirrorKey × Mark → Bool
is_event_of program e = option_map_or (λ its. is_eq (id_cmp program its)) (program_of e.1) false
