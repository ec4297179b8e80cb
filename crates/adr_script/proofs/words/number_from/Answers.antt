use Rattle.std.proofs.Common.{arith}
use Rattle.adr_script.proofs.Numbers.{room}
use Rattle.adr_script.proofs.words.number_from.Goals as goal

pub overflow_mul-number : goal.overflow_mul-number
overflow_mul-number c =
    omega (arith, room c.loop-byte.number c.loop-byte.byte-index (omega (arith, c.loop-byte-test.true, c.if-digits-gt16.false)) c.loop-byte.invariant.small)

pub overflow_add-number : goal.overflow_add-number
overflow_add-number c =
    omega (arith, room c.loop-byte.number c.loop-byte.byte-index (omega (arith, c.loop-byte-test.true, c.if-digits-gt16.false)) c.loop-byte.invariant.small)
