-- The fields of a head. A field is a name and a value.
use Rattle.std.specs.Prelude.{ℕ, Bool, List, map, filter, bytes_eq}
use Rattle.std.specs.Char.{to_ascii_lowercase}

-- the same, in any case of letters
abbrev pub same_letters : List ℕ → List ℕ → Bool
same_letters a b = bytes_eq (map to_ascii_lowercase a) (map to_ascii_lowercase b)

-- the values of the fields of a name, in their order
abbrev pub values : List ℕ → List (List ℕ × List ℕ) → List (List ℕ)
values name fields = map (λ f. f.1) (filter (λ f. same_letters f.0 name) fields)
