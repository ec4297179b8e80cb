-- The token that a request shows.
use Rattle.std.specs.Prelude.{ℕ, List, [], ◌∷◌, take, drop, codes, Option, Some, None, if◌then◌else◌}
use Rattle.adr_wire.specs.Fields.{same_letters, values}

-- `Bearer`, in any case of letters, a space, and then the token
abbrev pub bearer : List ℕ → Option (List ℕ)
bearer value = if same_letters (take 7 value) (codes "bearer ") then Some (drop 7 value) else None

-- the token of the only field; none where there are more
abbrev pub token_by : List (List ℕ) → Option (List ℕ)
token_by [] = None
token_by (value ∷ []) = bearer value
token_by (value ∷ other ∷ others) = None

-- the token of the only Authorization field of a head, or none
unfoldable pub token_in : List (List ℕ × List ℕ) → Option (List ℕ)
token_in fields = token_by (values (codes "authorization") fields)
