-- The text of each path, and that it alone is found.
use Rattle.std.specs.Prelude.{ℕ, List, [], ◌∷◌, ◌++◌, ◌≡◌, Some, IsTrue, All, codes}
use Rattle.adr_text.specs.Ids.{is_id}
use Rattle.adr_routes.specs.declared.path.Path.{Path}
use Rattle.adr_routes.specs.declared.path.Path.TheVariants.{At, Of, Under}
use Rattle.adr_routes.specs.declared.place.Place.{Place}
use Rattle.adr_routes.specs.declared.place.Place.TheVariants.{Root, One}
use Rattle.adr_routes.specs.declared.place.Two.TheVariants.{Resource, Share}
use Rattle.adr_routes.specs.Shapes.{shape_of, filled, joined}
use Rattle.adr_routes.specs.Places.{text_of}
use Rattle.adr_routes.specs.Paths.{path_of}

-- the ids in a path
abbrev pub ids_of : Path → List (List ℕ)
ids_of (At root) = []
ids_of (Of one id) = id ∷ []
ids_of (Under two a b) = a ∷ b ∷ []

-- the text of a kind of path, with ids in the place of its braces
abbrev pub text_with : Place → List (List ℕ) → List ℕ
text_with place ids = joined (filled (shape_of (text_of place)) ids)

-- a path as it is written: the text of its kind, with its id in the place of the braces. Which of two ids comes first is
-- written out, and not left to the definition that the other texts are filled by
abbrev pub text_at : Path → List ℕ
text_at (At root) = text_with (Root root) []
text_at (Of one id) = text_with (One one) (id ∷ [])
text_at (Under Resource ven resource) = codes "/vens/" ++ (ven ++ (codes "/resources/" ++ resource))
text_at (Under Share program resource) = codes "/shares/" ++ (program ++ (codes "/" ++ resource))

-- what stands in the path where its kind's text has braces are object ids
abbrev pub HasIds : Path → Type 0
HasIds path = All (λ id. IsTrue (is_id id)) (ids_of path)

-- each served path is found under the text that it is written as
abbrev pub EveryPathIsFound : Type 0
EveryPathIsFound = (path : Path) → HasIds path → path_of (text_at path) ≡ Some path

-- a text that is found is the text of its path, whose ids are object ids
abbrev pub NoOtherTextIsFound : Type 0
NoOtherTextIsFound = (text : List ℕ) (path : Path) → path_of text ≡ Some path → (text ≡ text_at path) × HasIds path
