use Rattle.std.specs.Prelude.{◌≡◌, ◌+◌, All, length}
use Rattle.adr_book.proofs.office.cut.Given as goal

abbrev pub invariant-loop-i : goal.invariant-loop-i
invariant-loop-i g l = (l.rest.parts + l._i ≡ l.passes) × (l.rest.amount ≡ 0) × (length l.all.items ≡ l._i) × All (λ p. (p.turn ≡ 0) × (p.share.amount ≡ 0)) l.all.items
