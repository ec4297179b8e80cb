use Rattle.std.specs.Prelude.{◌≡◌, ◌+◌, length}
use Rattle.std.specs.List.{sum_by}
use Rattle.adr_book.proofs.office.merged.Given as goal

abbrev pub invariant-loop-pass : goal.invariant-loop-pass
invariant-loop-pass g l = (l.all.parts + length l.passes.items ≡ length l.fn.passes.items) × (l.all.amount + sum_by (λ p. p.share.amount) l.passes.items ≡ sum_by (λ p. p.share.amount) l.fn.passes.items)

abbrev pub decreases-loop-pass : goal.decreases-loop-pass
decreases-loop-pass g l = goal.left-loop-pass g l
