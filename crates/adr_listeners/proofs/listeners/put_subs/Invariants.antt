use Rattle.std.proofs.Common.{◌≡◌}
use Rattle.adr_db.proofs.Common.{nat_cmp}
use Rattle.adr_state.specs.Keys.{with_rows}
use Rattle.adr_listeners.proofs.listeners.put_subs.Given as goal

abbrev pub invariant-subs : goal.invariant-subs
invariant-subs l = l.subs ≡ with_rows nat_cmp l.fn.subs l.yielded
