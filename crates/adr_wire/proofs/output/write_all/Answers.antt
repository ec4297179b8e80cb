use Rattle.std.proofs.Common.{◌≡◌, ◌+◌, ◌-◌, ◌++◌, ◌∙◌, length, take, drop, sym, ap, List, ℕ, arith}
use Rattle.std.proofs.Math.Seq.{take-add}
use Rattle.std.proofs.lemmas.List.{take_rest}
use Rattle.std.proofs.KnownBytes.{Appends-trans}
use Rattle.adr_text.specs.Calls.{Calls}
use Rattle.adr_wire.proofs.output.write_all.Goals as goal

one_part_more : (at n : ℕ) (bytes : List ℕ) → take at bytes ++ take n (take (length bytes - at) (drop at bytes)) ≡ take (at + n) bytes
one_part_more at n bytes = rw take_rest (sym (take-add at n bytes))

-- one write more
pub loop-at-preserved : goal.loop-at-preserved
loop-at-preserved g c =
    let before = c.loop-at.invariant in
    record {
      inside = omega (arith, c.in_ok-at.ensures.bound);
      written = rw (one_part_more c.loop-at.at c.in_ok-at.field-0 c.args.bytes.now) at (Appends-trans _ _ _ _ _ before.written c.in_ok-at.ensures.bytes);
      failed = ap (λ (calls : Calls). calls.failed) c.in_ok-at.ensures.calls ∙ before.failed;
    }
