-- That the methods of a path are those by which something is asked there.
use Rattle.std.specs.Prelude.{◌≡◌, ◌≢◌, ℕ, List, true, false, None, Ok}
use Rattle.adr_queries.specs.declared.role.Role.{Role}
use Rattle.adr_routes.specs.declared.path.Path.{Path}
use Rattle.adr_routes.specs.Methods.{has}
use Rattle.adr_routes.specs.Places.{methods_of}
use Rattle.adr_routes.specs.Paths.{place_of}
use Rattle.adr_asked.specs.Requests.{asked_by}

-- by a method that the path has something is asked or refused, whoever asks; by any other nothing is
abbrev pub MethodsAreServed : Type 0
MethodsAreServed = (role : Role) (method : List ℕ) (path : Path) (query body : List ℕ)
    → (has (methods_of (place_of path)) method ≡ true → asked_by role method path query body ≢ Ok None)
    × (has (methods_of (place_of path)) method ≡ false → asked_by role method path query body ≡ Ok None)
