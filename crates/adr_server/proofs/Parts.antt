-- What was written whole is a part, up to all of it.
use Rattle.std.proofs.Common.{◌≡◌, ℕ, List, Option, length, take, sym, subst, arith}
use Rattle.std.specs.Io.KnownBytes.{Appends}
use Rattle.std.proofs.lemmas.List.{take_all}
use Rattle.adr_wire.specs.Calls.{WritesPart}

pub whole_is_part : (old new : Option (List ℕ)) (bytes : List ℕ) → Appends old new bytes → WritesPart old new bytes
whole_is_part old new bytes whole =
    let all : take (length bytes) bytes ≡ bytes = take_all (length bytes) bytes (omega arith) in
    record { part = length bytes; written = subst (Appends old new) (sym all) whole }
