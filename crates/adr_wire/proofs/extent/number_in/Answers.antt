use Rattle.std.proofs.Common.{rules, ◌≡◌, ◌+◌, ◌*◌, ◌-◌, ℕ, min, arith, get_or}
use Rattle.std.proofs.lemmas.List.{take_more}
use Rattle.std.proofs.lemmas.Str.{digit_value_digit}
use Rattle.std.proofs.lemmas.Int.Digits.{digits_value_push}
use Rattle.std.specs.Char.{digit_value}
use Rattle.std.proofs.lemmas.Grind.{common_steps}
use Rattle.adr_wire.proofs.extent.number_in.Goals as goal

capped : (v d n new k : ℕ) → v ≡ min n k → new ≡ min (v * 10 + d) k → new ≡ min (n * 10 + d) k
capped v d n new k e f = omega arith

pub loop-digit-preserved : goal.loop-digit-preserved
loop-digit-preserved c =
    let digit = get_or c.args.text.now c.loop-digit.digit-index 0 in
    let more = take_more c.args.text.now c.loop-digit.digit-index 0 c.loop-digit-test.true in
    let bounds = c.if-not-is_ascii_digit.ensures in
    let is_value : digit_value digit ≡ digit - 48 = omega (arith, digit_value_digit digit (search rules)) in
    record {
      value = rw (more, digits_value_push 10, is_value) (capped c.loop-digit.value (digit - 48) _ _ _ c.loop-digit.invariant.value c.min-value.ensures);
      digits = grind (arith, common_steps);
    }
