-- What a request asks.
use Rattle.std.specs.Prelude.{ℕ, List, Option, Some, None, Result, Err}
use Rattle.adr_queries.specs.declared.role.Role.{Role}
use Rattle.adr_request.specs.Requests.{RequestParts}
use Rattle.adr_reply.specs.declared.problem.Problem.{Problem}
use Rattle.adr_reply.specs.declared.problem.Problem.TheVariants.{Unauthorized}
use Rattle.adr_asked.specs.declared.asked.Asked.{Asked}
use Rattle.adr_asked.specs.Requests.{asked_of}
use Rattle.adr_http.specs.Roles.{role_of}

-- the role of the token that is shown, where one is and is known
abbrev pub role_shown : List (List ℕ × Role) → Option (List ℕ) → Option Role
role_shown roles None = None
role_shown roles (Some token) = role_of roles token

abbrev pub plan_by : Option Role → RequestParts → Result Asked Problem
plan_by None r = Err Unauthorized
plan_by (Some role) r = asked_of role r.method r.target r.body

-- what a request asks by the role of its token, or why it asks nothing: that isn't known, or what `asked_of` says
abbrev pub plan_of : List (List ℕ × Role) → RequestParts → Result Asked Problem
plan_of roles r = plan_by (role_shown roles r.token) r
