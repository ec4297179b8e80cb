-- The shape of a path: how many parts it has between its slashes, and what each may be.
use Rattle.std.specs.Prelude.{ℕ, Bool, ◌&&◌, ◌==◌, true, false, List, [], ◌∷◌, ◌++◌, length, map, nat_lt, if◌then◌else◌, bytes_eq, Option, Some, None}
use Rattle.std.specs.List.{flat_map}
use Rattle.adr_wire.specs.Cuts.{parts}

-- a part that is this word, or any part that is not empty
pub data Part : Type 0 where
  word : List ℕ → Part
  any : Part

-- a part of a place's text: one that begins with an opening brace stands for any
abbrev pub part_of : List ℕ → Part
part_of [] = word []
part_of (b ∷ rest) = if b == 123 then any else word (b ∷ rest)

-- the part stands for any that is not empty
abbrev pub is_any : Part → Bool
is_any (word w) = false
is_any any = true

-- the parts of a text between its slashes: what stands before the first slash is a part too, so a path that begins
-- with one has an empty first part
abbrev pub shape_of : List ℕ → List Part
shape_of text = map part_of (parts 47 text)

abbrev pub part_fits : Part → List ℕ → Bool
part_fits (word w) s = bytes_eq w s
part_fits any s = nat_lt 0 (length s)

-- as many parts, each of which fits
abbrev pub fits : List Part → List (List ℕ) → Bool
fits [] [] = true
fits [] (s ∷ ss) = false
fits (p ∷ ps) [] = false
fits (p ∷ ps) (s ∷ ss) = part_fits p s && fits ps ss

-- the part, where the shape has any
abbrev pub one_name : Part → List ℕ → List (List ℕ)
one_name p s = if is_any p then s ∷ [] else []

-- the parts where the shape has any
abbrev pub names_in : List Part → List (List ℕ) → List (List ℕ)
names_in [] ss = []
names_in (p ∷ ps) [] = []
names_in (word w ∷ ps) (s ∷ ss) = names_in ps ss
names_in (any ∷ ps) (s ∷ ss) = s ∷ names_in ps ss

-- the shape's words, and these where it has any
abbrev pub filled : List Part → List (List ℕ) → List (List ℕ)
filled [] names = []
filled (word w ∷ ps) names = w ∷ filled ps names
filled (any ∷ ps) [] = []
filled (any ∷ ps) (n ∷ names) = n ∷ filled ps names

-- the path that has these parts
abbrev pub joined : List (List ℕ) → List ℕ
joined [] = []
joined (s ∷ ss) = s ++ flat_map (λ next. 47 ∷ next) ss

module _ {T : Type 0} where
  -- the first entry of a table whose text has these parts' shape
  abbrev pub entry_in : List (List ℕ × T) → List (List ℕ) → Option (List ℕ × T)
  entry_in [] ss = None
  entry_in (e ∷ rest) ss = if fits (shape_of e.0) ss then Some e else entry_in rest ss

  abbrev pub value_of : Option (List ℕ × T) → Option T
  value_of None = None
  value_of (Some e) = Some e.1

  -- its value
  abbrev pub value_in : List (List ℕ × T) → List ℕ → Option T
  value_in table path = value_of (entry_in table (parts 47 path))
