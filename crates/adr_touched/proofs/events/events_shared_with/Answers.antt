use Rattle.std.proofs.Common.{arith}
use Rattle.std.specs.List.{list_any}
use Rattle.adr_db.proofs.Common.{state, HasCleanDisk}
use Rattle.adr_db.proofs.Results.{ok_then}
use Rattle.adr_refresh.specs.Touched.{live_in, shares_in, one_shares}
use Rattle.adr_touched.proofs.Found.{one_of_resources}
use Rattle.adr_touched.proofs.Gathered.{weaker}
use Rattle.adr_touched.proofs.Tested.{by_program}
use Rattle.adr_touched.proofs.events.events_shared_with.Goals as goal

pub returns-clause-finds : goal.returns-clause-finds
returns-clause-finds g c clean =
    let ven = c.args.ven in
    let early : HasCleanDisk (state g.S.Store c.read_resources_of.new.tx.conn.now) = omega (arith, c.events_shared_by_each.ensures.lent.stays.crash.clean) in
    ok_then c.events_shared_by_each.result (λ keys finds kept was.
    let resources = c.in_ok-resources.ensures.finds early kept was in
    let found = finds kept resources.1 in
    (λ id there. found.0 id (weaker live_in by_program kept.mirror (one_shares kept.portfolio ven) (λ p. list_any (λ n. shares_in kept.portfolio n p) c.in_ok-resources.resources) (λ program shares. rw resources.0 (one_of_resources kept.portfolio ven program shares)) id there), found.1)) (c.events_shared_by_each.ensures.finds clean)
