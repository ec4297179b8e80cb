-- The program's arguments: `script`, and then limits as `NAME=NUMBER`; `init`, and the name of a file; or `serve`, and that of a configuration.
use Rattle.std.specs.Prelude.{ℕ, nat_le, nat_eq, Bool, false, List, [], ◌∷◌, length, codes, bytes_eq, Option, Some, None, option_and_then, if◌then◌else◌}
use Rattle.adr_state.specs.Digits.{most_number, number_within}
use Rattle.adr_state.specs.Limits.{largest, limits_set}
use Rattle.adr_state.specs.declared.limits.Limits.{Limits}
use Rattle.adr_wire.specs.Cuts.{cut}

-- the number that at most 16 digits write, where it is one that a limit may have: the largest is that of the serial
abbrev pub number_at : List ℕ → Option ℕ
number_at digits = if nat_le (length digits) 16 then number_within most_number digits else None

-- the limits with that of a name set to the number behind it
abbrev pub set_to : Limits → List ℕ × Option (List ℕ) → Option Limits
set_to limits (name, None) = None
set_to limits (name, Some digits) = option_and_then (λ n. limits_set name n limits) (number_at digits)

-- the limits with that of one argument set: its name before the first `=`, its number behind it
unfoldable pub limit_set : Limits → List ℕ → Option Limits
limit_set limits argument = set_to limits (cut 61 argument)

-- the limits with each argument set in turn
abbrev pub limits_after : Limits → List (List ℕ) → Option Limits
limits_after limits [] = Some limits
limits_after limits (a ∷ arguments) = option_and_then (λ l. limits_after l arguments) (limit_set limits a)

-- the limits that the words behind the program's name set: `script`, and then limits
abbrev pub limits_of : List (List ℕ) → Option Limits
limits_of [] = None
limits_of (word ∷ arguments) = if bytes_eq word (codes "script") then limits_after largest arguments else None

-- a word that begins with `-` is an option
abbrev pub is_option : List ℕ → Bool
is_option [] = false
is_option (first ∷ word) = nat_eq first 45

-- the name of the file behind a word, where the words behind the program's name are these two, and it is no option
abbrev pub named_after : List ℕ → List (List ℕ) → Option (List ℕ)
named_after word (first ∷ name ∷ []) = if bytes_eq first word then (if is_option name then None else Some name) else None
named_after word _ = None
