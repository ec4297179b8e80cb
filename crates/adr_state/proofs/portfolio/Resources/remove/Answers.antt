use Rattle.std.proofs.Common.{arith}
use Rattle.std.specs.Ordering.{nat_cmp}
use Rattle.std.specs.BTreeMap.{is_at}
use Rattle.adr_state.proofs.MapLemmas.{length-remove_entry}
use Rattle.adr_state.proofs.portfolio.Resources.remove.Goals as goal

pub invariant_of-self : goal.invariant_of-self
invariant_of-self c = rw c.remove.ensures.removed (omega (arith, length-remove_entry (is_at (nat_cmp c.args.number)) c.self.inside.rows, c.self.invariant))
