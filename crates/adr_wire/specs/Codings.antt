-- The codings of a body.
use Rattle.std.specs.Prelude.{ℕ, Bool, List, [], ◌∷◌, codes}
use Rattle.std.specs.List.{flat_map}
use Rattle.httparse.specs.Grammar.{trim_ows}
use Rattle.adr_wire.specs.Cuts.{parts}
use Rattle.adr_wire.specs.Fields.{same_letters}

-- the text, if there is any
abbrev pub if_any : List ℕ → List (List ℕ)
if_any [] = []
if_any (b ∷ text) = (b ∷ text) ∷ []

-- the coding that stands between two commas: none, where that is empty but for spaces and tabs
abbrev pub coding_in_part : List ℕ → List (List ℕ)
coding_in_part part = if_any (trim_ows part)

-- the codings that a value lists
abbrev pub codings_of : List ℕ → List (List ℕ)
codings_of value = flat_map coding_in_part (parts 44 value)

-- the codings that the values of all fields list, in their order
abbrev pub codings : List (List ℕ) → List (List ℕ)
codings values = flat_map codings_of values

-- the word `chunked`, in any case of letters and without parameters
abbrev pub is_chunked : List ℕ → Bool
is_chunked coding = same_letters coding (codes "chunked")
