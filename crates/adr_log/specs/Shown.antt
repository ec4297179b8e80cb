-- What a line of the log is made of.
use Rattle.std.specs.Prelude.{ℕ, nat_le, Bool, ◌&&◌, List, All, IsTrue}

-- a character from a space to ~
abbrev pub is_shown : ℕ → Bool
is_shown c = nat_le 32 c && nat_le c 126

-- none but such characters: no end of a line is among them, and nothing that a terminal would obey
abbrev pub AreShown : List ℕ → Type 0
AreShown cs = All (λ c. IsTrue (is_shown c)) cs
