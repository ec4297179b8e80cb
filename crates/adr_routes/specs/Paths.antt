-- The paths that are served, and the ids in them.
use Rattle.std.specs.Prelude.{ℕ, List, [], ◌∷◌, map, Option, Some, None, option_map, option_and_then}
use Rattle.adr_wire.specs.Cuts.{parts}
use Rattle.adr_routes.specs.declared.place.Place.{Place}
use Rattle.adr_routes.specs.declared.place.Place.TheVariants.{Root, One, Two}
use Rattle.adr_routes.specs.declared.path.Path.{Path}
use Rattle.adr_routes.specs.declared.path.Path.TheVariants.{At, Of, Under}
use Rattle.adr_routes.specs.Places.{text_of, table}
use Rattle.adr_routes.specs.Shapes.{shape_of, names_in, value_in}
use Rattle.adr_routes.specs.Words.{id_from}

-- the kind of a path
abbrev pub place_of : Path → Place
place_of (At root) = Root root
place_of (Of one id) = One one
place_of (Under two a b) = Two two

-- the first one there is, where it is an id
abbrev pub one_id : List (Option (List ℕ)) → Option (List ℕ)
one_id [] = None
one_id (id ∷ rest) = id

-- the first two, where both are ids
abbrev pub two_ids : List (Option (List ℕ)) → Option (List ℕ × List ℕ)
two_ids [] = None
two_ids (first ∷ rest) = option_and_then (λ a. option_map (λ b. (a, b)) (one_id rest)) first

-- the path of this kind, with what stands where its text has braces
abbrev pub path_at : Place → List (Option (List ℕ)) → Option Path
path_at (Root root) ids = Some (At root)
path_at (One one) ids = option_map (λ id. Of one id) (one_id ids)
path_at (Two two) ids = option_map (λ both. Under two both.0 both.1) (two_ids ids)

-- what a path has where a place's text has braces
abbrev pub names_at : Place → List ℕ → List (List ℕ)
names_at place path = names_in (shape_of (text_of place)) (parts 47 path)

abbrev pub path_in : Option Place → List ℕ → Option Path
path_in None path = None
path_in (Some place) path = path_at place (map id_from (names_at place path))

-- the first place whose text the path has the shape of
unfoldable pub place_in : List ℕ → Option Place
place_in path = value_in table path

-- the path that the bytes are: they have the shape of one place's text, and an id where that has braces
unfoldable pub path_of : List ℕ → Option Path
path_of path = path_in (place_in path) path
