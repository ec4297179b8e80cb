use Rattle.std.proofs.Common.{◌≡◌, drop}
use Rattle.std.specs.Cmp.Lexicographic.{pointwise}
use Rattle.adr_view.specs.Same.{is_same_sum}
use Rattle.adr_view.proofs.same.is_same_sums.Given as goal

-- those that are left are the same where all are
abbrev pub invariant-loop-one : goal.invariant-loop-one
invariant-loop-one l = pointwise is_same_sum (drop l.one-index l.a) l.others.rest.now ≡ pointwise is_same_sum l.a l.b
