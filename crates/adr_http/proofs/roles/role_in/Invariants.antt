use Rattle.std.proofs.Common.{◌≡◌, map, drop}
use Rattle.adr_http.specs.Roles.{granted, role_of}
use Rattle.adr_http.proofs.roles.role_in.Given as goal

abbrev pub invariant-loop-grant : goal.invariant-loop-grant
invariant-loop-grant l = role_of (map granted (drop l.grant-index l.grants)) l.token ≡ role_of (map granted l.grants) l.token
