-- The serial, from which numbers are drawn one after another.
use Rattle.std.specs.Prelude.{ℕ, ◌+◌, nat_le, nat_lt, Bool, true, false, Option, Some, None, Result, Ok, Err, if◌then◌else◌}
use Rattle.adr_text.specs.declared.refusal.Refusal.{Refusal}
use Rattle.adr_text.specs.declared.refusal.Refusal.TheVariants.{Exhausted}
use Rattle.adr_state.specs.declared.limits.Limits.{Limits}
use Rattle.adr_state.specs.Digits.{most_number}

-- a serial, where the number may be its last
abbrev pub serial_of : ℕ → Option ℕ
serial_of last = if nat_lt most_number last then None else Some last

-- the serial after a number was drawn, where one is wanted and left: 4 where one is wanted and none is left, and the
-- serial as it is where none is wanted
abbrev pub drawn : Limits → ℕ → Bool → Result ℕ Refusal
drawn limits serial false = Ok serial
drawn limits serial true = if nat_le limits.serial serial then Err Exhausted else Ok (serial + 1)
