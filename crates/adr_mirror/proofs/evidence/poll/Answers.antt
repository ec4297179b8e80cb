use Rattle.std.proofs.Common.{Bool, cond, sym, subst}
use Rattle.sqlite.specs.Held.{state}
use Rattle.adr_db.specs.Kept.{Keeps}
use Rattle.adr_db.proofs.Results.{on_then}
use Rattle.adr_mirror.specs.Raises.{with_keys_polled}
use Rattle.adr_mirror.proofs.evidence.poll.Goals as goal

pub returns-clause-leaves : goal.returns-clause-leaves
returns-clause-leaves g c clean =
    let new = state g.S.Store c.poll_each.new.tx.conn.now in
    on_then c.poll_each.result (λ leaves kept was. subst (λ (b : Bool). Keeps (cond b (with_keys_polled c.args.founds.now kept) kept) new) (sym c.if-not-noted.false) (leaves kept was)) (c.poll_each.ensures.leaves clean)
