-- Plain digits, and the numbers of the ids that the node gives.
use Rattle.std.specs.Prelude.{ℕ, ◌+◌, ◌-◌, ◌*◌, ◌==◌, nat_le, Bool, false, not, ◌&&◌, List, [], ◌∷◌, length, Option, Some, None, if◌then◌else◌}
use Rattle.std.specs.List.{list_all}

-- the largest number that the serial may reach: 9·10^15
abbrev pub most_number : ℕ
most_number = 9_000_000_000_000_000

-- from '0' to '9'
abbrev pub is_digit : ℕ → Bool
is_digit byte = nat_le 48 byte && nat_le byte 57

-- the number that the digits write, behind those that wrote n
abbrev pub read_on : ℕ → List ℕ → ℕ
read_on n [] = n
read_on n (d ∷ ds) = read_on (n * 10 + (d - 48)) ds

-- the number that plain digits write, where it is at most the given one
abbrev pub number_within : ℕ → List ℕ → Option ℕ
number_within most digits = if not (length digits == 0) && list_all is_digit digits && nat_le (read_on 0 digits) most then Some (read_on 0 digits) else None

-- the first byte is '0', and there is one
abbrev pub starts_with_zero : List ℕ → Bool
starts_with_zero [] = false
starts_with_zero (d ∷ ds) = d == 48

-- the number of an id: its letter, and then digits, of which the first is not 0
abbrev pub number_in : ℕ → List ℕ → Option ℕ
number_in letter [] = None
number_in letter (b ∷ digits) = if b == letter && not (starts_with_zero digits) then number_within most_number digits else None
