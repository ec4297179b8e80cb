use Rattle.std.proofs.Common.{◌≡◌, false, arith, ◌∙◌, sym, ap}
use Rattle.std.proofs.lemmas.Grind.{common_steps}
use Rattle.adr_objects.specs.Intervals.{has_id}
use Rattle.adr_schema.proofs.Reading.{differ-push}
use Rattle.adr_schema.proofs.read_intervals.each_interval.Goals as goal

pub loop-v-preserved : goal.loop-v-preserved
loop-v-preserved c =
    let fresh : has_id (λ i. i.id) c.in_ok-next.next.id c.loop-v.intervals.items ≡ false = ap (has_id (λ i. i.id) c.in_ok-next.next.id) (sym c.deref.ensures.value) ∙ c.in_ok-next.ensures.fresh in
    record {
      len = grind (arith, common_steps);
      apart = rw c.in_ok-push.ensures.items (differ-push (λ i. i.id) c.loop-v.intervals.items c.in_ok-next.next c.loop-v.invariant.apart fresh);
      so_far = grind (arith, common_steps);
      place = grind (arith, common_steps);
    }
