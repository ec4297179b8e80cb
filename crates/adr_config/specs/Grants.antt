-- Tokens with their roles, and limits by their names.
use Rattle.std.specs.Prelude.{ℕ, List, [], ◌∷◌, bytes_eq, codes, map, Option, Some, None, Result, Ok, Err, if◌then◌else◌}
use Rattle.serde_json.specs.Data.{Data}
use Rattle.adr_text.specs.Faults.{as_fault}
use Rattle.adr_text.specs.Fields.{each, id_in, is_object, member_of, objects_in, optional, required, text_of}
use Rattle.adr_text.specs.Refusals.{◌>>=◌, or_else}
use Rattle.adr_text.specs.declared.fault.Fault.{Fault}
use Rattle.adr_text.specs.declared.fault.Fault.TheVariants.{BadShape, OutOfRange}
use Rattle.adr_subscription.specs.Tokens as bearer
use Rattle.adr_state.specs.declared.limits.Limits.{Limits}
use Rattle.adr_state.specs.Limits.{largest, limits_set}
use Rattle.adr_queries.specs.declared.role.Role.{Role}
use Rattle.adr_queries.specs.declared.role.Role.TheVariants.{Operator, Utility, Ven}
use Rattle.adr_http.specs.Roles.{roles_of}
use Rattle.adr_config.specs.declared.grants.TokenIn.{TokenIn}
use Rattle.adr_config.specs.Members.{count_in}

-- ---- tokens

-- a role that is no ven's has no id
abbrev pub plain : Role → Option (List ℕ) → Result Role Fault
plain role None = Ok role
plain role (Some id) = Err BadShape

-- the role of a ven, which has its id
abbrev pub of_ven : Option (List ℕ) → Result Role Fault
of_ven None = Err BadShape
of_ven (Some id) = Ok (Ven id)

-- the role of a name: `operator` or `utility`, without an id, or `ven`, with one
abbrev pub role_named : List ℕ → Option (List ℕ) → Result Role Fault
role_named name ven =
    if bytes_eq name (codes "operator") then plain Operator ven
    else (if bytes_eq name (codes "utility") then plain Utility ven
    else (if bytes_eq name (codes "ven") then of_ven ven
    else Err BadShape))

-- a token and its role
unfoldable pub token_in : Data → Result TokenIn Fault
token_in d = do
  token ← required (member_of (codes "token") d) bearer.token_in
  name ← required (member_of (codes "role") d) text_of
  ven ← optional (member_of (codes "venID") d) id_in
  role ← role_named name ven
  Ok (record { token = token; role = role })

-- a token with its role, as it is granted
abbrev pub grant_of : TokenIn → List ℕ × Role
grant_of said = (said.token, said.role)

-- tokens, none of which stands twice
unfoldable pub roles_in : Data → Result (List (List ℕ × Role)) Fault
roles_in d = objects_in d >>= each token_in >>= λ said. as_fault (roles_of (map grant_of said))

-- ---- limits

-- the names of the limits
abbrev pub limit_names : List (List ℕ)
limit_names = codes "keys" ∷ codes "vens" ∷ codes "subs" ∷ codes "resources" ∷ codes "shares" ∷ codes "reports" ∷ codes "frozen" ∷ codes "pending" ∷ codes "serial" ∷ codes "trail" ∷ []

-- the limits with that of a name, where it is said
abbrev pub limit_said : List ℕ → Option Data → Limits → Result Limits Fault
limit_said name None limits = Ok limits
limit_said name (Some d) limits = count_in d >>= λ n. or_else OutOfRange (limits_set name n limits)

-- with those of the names in turn
abbrev pub limits_said : Data → List (List ℕ) → Limits → Result Limits Fault
limits_said d [] limits = Ok limits
limits_said d (name ∷ names) limits = limit_said name (member_of name d) limits >>= limits_said d names

-- the largest, but for those that are said
unfoldable pub limits_in : Data → Result Limits Fault
limits_in d = if is_object d then limits_said d limit_names largest else Err BadShape
