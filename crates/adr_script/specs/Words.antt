-- The words of a line: moments, numbers and roles.
use Rattle.std.specs.Prelude.{ℕ, ◌==◌, nat_le, not, ◌&&◌, List, length, codes, Option, Some, None, option_map, option_and_then, bytes_eq, Result, Ok, if◌then◌else◌}
use Rattle.std.specs.List.{list_all}
use Rattle.std.specs.Result.{result_ok}
use Rattle.adr_text.specs.Moments.{moment_of}
use Rattle.adr_routes.specs.Words.{text_from, id_from}
use Rattle.adr_state.specs.Digits.{is_digit, read_on}
use Rattle.adr_queries.specs.declared.role.Role.{Role}
use Rattle.adr_queries.specs.declared.role.Role.TheVariants.{Operator, Ven, Utility}
use Rattle.adr_wire.specs.Cuts.{behind}

-- the moment that the bytes say
unfoldable pub moment_from : List ℕ → Option ℕ
moment_from bytes = option_and_then (λ text. result_ok (moment_of text)) (text_from bytes)

-- the number that 1 to 16 plain digits write
unfoldable pub number_from : List ℕ → Option ℕ
number_from digits = if not (length digits == 0) && nat_le (length digits) 16 && list_all is_digit digits then Some (read_on 0 digits) else None

-- `operator`, `utility` or `ven:` and an id
unfoldable pub role_from : List ℕ → Option Role
role_from bytes =
    if bytes_eq bytes (codes "operator") then Some Operator
    else (if bytes_eq bytes (codes "utility") then Some Utility
    else option_map Ven (option_and_then id_from (behind (codes "ven:") bytes)))

-- what is asked by what is there, and nothing where it isn't
abbrev pub if_there : {A B E : Type 0} → Option A → (A → Result (Option B) E) → Result (Option B) E
if_there None ask = Ok None
if_there (Some x) ask = ask x
