use Rattle.std.proofs.Common.{◌≡◌, ◌++◌, map}
use Rattle.adr_http.specs.Roles.{granted}
use Rattle.adr_config.specs.Grants.{grant_of}
use Rattle.adr_config.proofs.grants.grants.Given as goal

abbrev pub invariant-loop-token : goal.invariant-loop-token
invariant-loop-token l = map granted l.grants.items ++ map grant_of l.token-iterator.rest.items ≡ map grant_of l.fn.said.items
