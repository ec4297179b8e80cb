use Rattle.std.proofs.Common.{◌≡◌, drop}
use Rattle.std.specs.Prelude.{◌==◌, ◌&&◌, bytes_eq}
use Rattle.adr_http.proofs.roles.is_same_token.Given as goal

-- what is left is the same where the whole is, unless a byte differed
abbrev pub invariant-loop-i : goal.invariant-loop-i
invariant-loop-i l = ((l.different == 0) && bytes_eq (drop l.i l.one) (drop l.i l.other)) ≡ bytes_eq l.one l.other
