use Rattle.adr_state.proofs.DigitLemmas.{too_large}
use Rattle.adr_state.proofs.digits.number_within.Goals as goal

pub returns-then-most-number : goal.returns-then-most-number
returns-then-most-number c =
    too_large c.args.most c.loop-byte.number c.loop-byte.byte-index c.args.digits.now c.loop-byte-test.true c.loop-byte.invariant.so_far c.if-most-number.true
