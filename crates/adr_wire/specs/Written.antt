-- Lines of a head, as they are written.
use Rattle.std.specs.Prelude.{ℕ, List, [], ◌∷◌, ◌++◌, codes}

-- the end of a line: a carriage return and a line feed
abbrev pub crlf : List ℕ
crlf = 13 ∷ 10 ∷ []

-- a field, by its name and its value
abbrev pub line : List ℕ × List ℕ → List ℕ
line field = field.0 ++ (codes ": " ++ (field.1 ++ crlf))
