use Rattle.std.proofs.Common.{◌≡◌, ◌++◌, map, drop, vec_len}
use Rattle.std.specs.List.{enumerate_from}
use Rattle.adr_split.specs.Claims.{claim_of}
use Rattle.adr_split.proofs.claims.all_claims.Given as goal

abbrev pub invariant-loop-place : goal.invariant-loop-place
invariant-loop-place l = record {
  claimed : l.claims.items ++ map (claim_of l.amount l.total) (enumerate_from l.place (drop l.place l.shares)) ≡ map (claim_of l.amount l.total) (enumerate_from 0 l.shares);
  counted : vec_len l.claims ≡ l.place;
}
