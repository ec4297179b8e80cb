use Rattle.std.proofs.Common.{◌≡◌, map, drop}
use Rattle.adr_http.specs.Roles.{granted, has_twice}
use Rattle.adr_http.proofs.roles.Roles.new.Given as goal

abbrev pub invariant-loop-i : goal.invariant-loop-i
invariant-loop-i l = has_twice (map granted (drop l.i l.grants.items)) ≡ has_twice (map granted l.grants.items)
