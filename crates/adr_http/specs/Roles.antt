-- The tokens of a node, and what each allows.
use Rattle.std.specs.Prelude.{ℕ, Bool, false, ◌||◌, List, [], ◌∷◌, bytes_eq, is_some, Option, Some, None, Result, Ok, Err, if◌then◌else◌}
use Rattle.adr_text.specs.declared.refusal.Refusal.{Refusal}
use Rattle.adr_text.specs.declared.refusal.Refusal.TheVariants.{BadShape}
use Rattle.adr_queries.specs.declared.role.Role.{Role}
use Rattle.adr_http.specs.declared.roles.Grant.{Grant}

-- a token, and its role
abbrev pub granted : Grant → List ℕ × Role
granted grant = (grant.token.items, grant.role)

-- the role of the first with that token
abbrev pub role_of : List (List ℕ × Role) → List ℕ → Option Role
role_of [] token = None
role_of (g ∷ grants) token = if bytes_eq g.0 token then Some g.1 else role_of grants token

-- a token stands twice
abbrev pub has_twice : List (List ℕ × Role) → Bool
has_twice [] = false
has_twice (g ∷ grants) = is_some (role_of grants g.0) || has_twice grants

-- the roles of these tokens, none of which stands twice; else the refusal 14
abbrev pub roles_of : List (List ℕ × Role) → Result (List (List ℕ × Role)) Refusal
roles_of grants = if has_twice grants then Err BadShape else Ok grants
