-- A body of a known length, from the bytes after the head.
use Rattle.std.specs.Prelude.{ℕ, List, length, take, nat_le, if◌then◌else◌, Result, Ok, Err}
use Rattle.adr_wire.specs.declared.end.MessageFault.{MessageFault}
use Rattle.adr_wire.specs.declared.end.MessageFault.TheVariants.{Malformed}

-- so many bytes, all of which are there; malformed where there are fewer
abbrev pub body_of_length : ℕ → List ℕ → Result (List ℕ) MessageFault
body_of_length n bytes = if nat_le n (length bytes) then Ok (take n bytes) else Err Malformed
