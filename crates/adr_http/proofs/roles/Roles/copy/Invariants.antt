use Rattle.std.proofs.Common.{◌≡◌, map, take}
use Rattle.adr_http.specs.Roles.{granted}
use Rattle.adr_http.proofs.roles.Roles.copy.Given as goal

abbrev pub invariant-loop-grant : goal.invariant-loop-grant
invariant-loop-grant l = map granted l.grants.items ≡ map granted (take l.grant-index l.grant-items)
