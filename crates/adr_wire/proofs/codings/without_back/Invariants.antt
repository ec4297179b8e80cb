use Rattle.std.proofs.Common.{◌≡◌, ◌-◌, length, take, reverse}
use Rattle.httparse.specs.Grammar.{skip_ows}
use Rattle.adr_wire.proofs.codings.without_back.Given as goal

abbrev pub invariant-loop-n : goal.invariant-loop-n
invariant-loop-n l = skip_ows (reverse (take (length l.bytes - l.n) l.bytes)) ≡ skip_ows (reverse l.bytes)
